-- What drm_grid_sizes, drm_grid_place and drm_grid_take yield, by the calls on settings. 02, S-4.
use Rattle.std.specs.Prelude.{ℕ, cond, ◌&&◌, List, length, ℤ, eqb}
use Rattle.placing.specs.Cells.{Cells}
use Rattle.grid.specs.Calls.{grid_sizes, grid_sizes_into, PlaceYield, place_of, TakeYield, take_of}
use Rattle.drmcoder.specs.Bytes.{settings_of}
use Rattle.settingbytes.specs.Numbers.{Numbers, yielded}

-- 255, and nothing written, unless there are ten bytes of settings and three numbers.
unfoldable pub grid_sizes_bytes : List ℕ → List ℕ → Numbers
grid_sizes_bytes settings numbers =
    cond (eqb (length settings) 10 && eqb (length numbers) 3) (grid_sizes_into (grid_sizes (settings_of settings)) numbers)
    (yielded 255 numbers)

-- Placing and taking: 255, and nothing written, unless there are ten bytes of settings.
unfoldable pub place_bytes : List ℕ → Cells → List ℤ → PlaceYield
place_bytes settings cells grid =
    cond (eqb (length settings) 10) (place_of (settings_of settings) cells grid) (record { answer = 255; grid = grid })

unfoldable pub take_bytes : List ℕ → List ℤ → Cells → TakeYield
take_bytes settings grid cells =
    cond (eqb (length settings) 10) (take_of (settings_of settings) grid cells) (record { answer = 255; cells = cells })
