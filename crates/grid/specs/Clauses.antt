-- What inner functions require and promise: nothing of 001 or 02 is stated here.
use Rattle.std.specs.Prelude.{ℕ, ◌*◌, ◌≡◌, not, ◌&&◌, List, length, ℤ, eqb, ltb, Result, Ok, Err}
use Rattle.settings.specs.declared.Settings.{Settings}
use Rattle.settings.specs.Refusal.{first, refusal}
use Rattle.settings.specs.Lengths.{n_sdc, n_sfa}
use Rattle.placing.specs.Cells.{Cells}
use Rattle.refusal.specs.declared.Refusal.{Refusal}
use Rattle.refusal.specs.Numbers.{number}
use Rattle.grid.specs.declared.GridSizes.{GridSizes}
use Rattle.grid.specs.Calls.{SizesYield, grid_numbers, PlaceYield, TakeYield}
use Rattle.placing.specs.Clauses.{cells_from}

-- The numbers of three FAC blocks of 65 cells.
abbrev pub fac_length : ℕ
fac_length = 390

-- The refusal by the lengths alone.
unfoldable pub lengths_refusal : ℕ → Settings → ℕ → ℕ → ℕ → ℕ → ℕ
lengths_refusal number s fac sdc msc grid =
    first (ltb 0 (refusal s)) (refusal s)
    (first (not (eqb fac fac_length && (eqb sdc (2 * n_sdc s) && eqb msc (2 * n_sfa s)))) number
    (first (not (eqb grid (grid_numbers s))) 17 0))

-- What is known of a call that is not refused.
pub record CallFits (s : Settings) (cells : Cells) (grid : List ℤ) : Type 0 where
  pub settings : refusal s ≡ 0
  pub fac_long : length cells.fac ≡ fac_length
  pub sdc_long : length cells.sdc ≡ 2 * n_sdc s
  pub msc_long : length cells.msc ≡ 2 * n_sfa s
  pub grid_long : length grid ≡ grid_numbers s

-- What the sizes yield, from their outcome.
abbrev pub sizes_yield : Result GridSizes Refusal → SizesYield
sizes_yield (Ok z) = record { refusal = 0; symbols = z.symbols; carriers = z.carriers; numbers = z.numbers }
sizes_yield (Err r) = record { refusal = number r; symbols = 0; carriers = 0; numbers = 0 }

-- Yields from their parts.
abbrev pub place_yield : ℕ → List ℤ → PlaceYield
place_yield answer grid = record { answer = answer; grid = grid }

abbrev pub take_yield : ℕ → List ℤ → List ℤ → List ℤ → TakeYield
take_yield answer fac sdc msc = record { answer = answer; cells = cells_from fac sdc msc }
