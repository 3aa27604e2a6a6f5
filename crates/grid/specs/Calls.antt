-- The calls: sizes of a grid, cells placed, cells taken. 02, S-4.
use Rattle.std.specs.Prelude.{ℕ, ◌*◌, Bool, cond, not, ◌&&◌, List, [], ◌∷◌, length, ℤ, eqb, ltb}
use Rattle.partlengths.specs.Cells.{fac_cells}
use Rattle.settings.specs.declared.Settings.{Settings}
use Rattle.settings.specs.Refusal.{first, refusal}
use Rattle.settings.specs.Lengths.{n_sdc, n_sfa}
use Rattle.settingbytes.specs.Numbers.{Numbers, yielded}
use Rattle.kinds.specs.Carriers.{symbols, carriers}
use Rattle.kinds.specs.Places.{places, grid_kinds}
use Rattle.placing.specs.Cells.{Cells, placed, taken}

-- The kinds of a super frame's places, and the numbers of its grid, three for each place.
unfoldable pub kinds : Settings → List ℕ
kinds s = grid_kinds s.mode s.occupancy

unfoldable pub grid_numbers : Settings → ℕ
grid_numbers s = 3 * places s.mode s.occupancy

-- What the sizes of a grid yield: the answer, and the sizes.
pub record SizesYield : Type 0 where
  pub refusal : ℕ
  pub symbols : ℕ
  pub carriers : ℕ
  pub numbers : ℕ

-- Sizes: 0, the symbols of a super frame, the carriers of a symbol, the numbers of a grid; or the refusal 1 to 7 and zeros.
unfoldable pub no_grid : ℕ → SizesYield
no_grid r = record { refusal = r; symbols = 0; carriers = 0; numbers = 0 }

unfoldable pub some_grid : Settings → SizesYield
some_grid s =
    record {
      refusal = 0;
      symbols = symbols s.mode;
      carriers = carriers s.mode s.occupancy;
      numbers = grid_numbers s;
    }

unfoldable pub grid_sizes : Settings → SizesYield
grid_sizes s = cond (eqb (refusal s) 0) (some_grid s) (no_grid (refusal s))

-- Symbols of a super frame, carriers of a symbol, numbers of a grid; a refusal leaves the numbers as they were.
unfoldable pub grid_sizes_into : SizesYield → List ℕ → Numbers
grid_sizes_into z numbers =
    cond (eqb z.refusal 0) (yielded 0 (z.symbols ∷ z.carriers ∷ z.numbers ∷ [])) (yielded z.refusal numbers)

-- Cells for three FAC blocks, an SDC block and a super frame's MSC sequence.
unfoldable pub cells_fit : Settings → Cells → Bool
cells_fit s cells =
    eqb (length cells.fac) (3 * (2 * fac_cells))
    && (eqb (length cells.sdc) (2 * n_sdc s) && eqb (length cells.msc) (2 * n_sfa s))

-- The lowest number that applies: 1 to 7, then the number for cells of the wrong length, then 17 a grid of the wrong length.
unfoldable pub grid_refusal : ℕ → Settings → Cells → List ℤ → ℕ
grid_refusal number s cells grid =
    first (ltb 0 (refusal s)) (refusal s)
    (first (not (cells_fit s cells)) number (first (not (eqb (length grid) (grid_numbers s))) 17 0))

-- Cells are the input of placing, 9, and the output of taking, 10.
unfoldable pub place_refusal : Settings → Cells → List ℤ → ℕ
place_refusal s cells grid = grid_refusal 9 s cells grid

unfoldable pub take_refusal : Settings → Cells → List ℤ → ℕ
take_refusal s cells grid = grid_refusal 10 s cells grid

-- All that placing yields: the answer, and the lent grid as it leaves it. A refusal leaves it as it was.
pub record PlaceYield : Type 0 where
  pub answer : ℕ
  pub grid : List ℤ

unfoldable pub place_of : Settings → Cells → List ℤ → PlaceYield
place_of s cells grid =
    cond (eqb (place_refusal s cells grid) 0) (record { answer = 0; grid = placed (kinds s) cells })
    (record { answer = place_refusal s cells grid; grid = grid })

-- All that taking yields: the answer, and the lent cells as it leaves them.
pub record TakeYield : Type 0 where
  pub answer : ℕ
  pub cells : Cells

unfoldable pub take_of : Settings → List ℤ → Cells → TakeYield
take_of s grid cells =
    cond (eqb (take_refusal s cells grid) 0) (record { answer = 0; cells = taken (kinds s) grid })
    (record { answer = take_refusal s cells grid; cells = cells })
