-- What inner functions require and promise: nothing of 001 or 02 is stated here.
use Rattle.std.specs.Prelude.{ℕ, ◌*◌, ◌≤◌, ◌≡◌, List, length, ℤ}
use Rattle.placing.specs.Cells.{Cells, count}

-- Cells from the three buffers.
abbrev pub cells_from : List ℤ → List ℤ → List ℤ → Cells
cells_from fac sdc msc = record { fac = fac; sdc = sdc; msc = msc }

-- Kinds for a grid of this length.
pub record GridFits (kinds : List ℕ) (grid : List ℤ) : Type 0 where
  pub long : length grid ≡ 3 * length kinds
  pub low : length kinds ≤ 20745

-- Kinds, a grid of their length, and a buffer for the cells of the places of a kind.
pub record TakeFits (kind : ℕ) (kinds : List ℕ) (grid out : List ℤ) : Type 0 where
  pub grids : GridFits kinds grid
  pub long : length out ≡ 2 * count kind kinds

-- The same for the cells of a super frame.
pub record AllFit (kinds : List ℕ) (grid : List ℤ) (cells : Cells) : Type 0 where
  pub fac_fits : TakeFits 4 kinds grid cells.fac
  pub sdc_fits : TakeFits 5 kinds grid cells.sdc
  pub msc_fits : TakeFits 6 kinds grid cells.msc
