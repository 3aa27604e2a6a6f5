-- What the functions of this crate require of the buffers that they are lent, and promise of them: nothing of 01 is stated here.
use Rattle.std.specs.Prelude.{ℕ, ◌*◌, ◌<◌, ◌≡◌, false, List, length, get_or, ℤ, pos, negsuc, cond, ◌&&◌}
use Rattle.std.specs.Int.Signed.{lt_z}
use Rattle.std.specs.Int.Bits.{bit_and}
use Rattle.std.specs.Int.{w16}
use Rattle.std.proofs.Common.{of_z}
use Rattle.lists.specs.Lists.{table}
use Rattle.block.specs.declared.Constellation.{Constellation}
use Rattle.block.specs.Mapping.{is_mixed}
use Rattle.block.specs.Reading.{place_of}
use Rattle.cellbytes.specs.CellBytes.{signed}

-- Labels of at most three level bits.
pub record ThreeBits (l : List ℕ) : Type 0 where
  pub low : (k : ℕ) → get_or l k 0 < 8

-- A constellation whose axes have one labelling, and a number of level bits for each coordinate.
pub record Maps (c : Constellation) (labels : List ℕ) (out : List ℤ) : Type 0 where
  pub one : is_mixed c ≡ false
  pub same : length out ≡ length labels
  pub low : ThreeBits labels

-- A number of level bits of each axis for each cell.
pub record MapsAxes (re im : List ℕ) (out : List ℤ) : Type 0 where
  pub same : length out ≡ 2 * length re
  pub both : length im ≡ length re
  pub low_real : ThreeBits re
  pub low_imaginary : ThreeBits im

-- A constellation whose axes have one labelling, and room for a number for each coordinate.
pub record Unmaps (c : Constellation) (cells : List ℤ) (out : List ℕ) : Type 0 where
  pub one : is_mixed c ≡ false
  pub same : length out ≡ length cells

-- An axis, whole cells, and room for a number of the axis for each cell.
pub record UnmapsAxis (a : ℕ) (cells : List ℤ) (out : List ℕ) : Type 0 where
  pub axis : a < 2
  pub same : length cells ≡ 2 * length out

-- The labels of a labelling by the four lowest binary digits of a number from -8 to 7; the first one is that of what is no coordinate.
unfoldable pub labels_by : List ℤ → List ℕ
labels_by l = table (λ k. place_of l (signed k)) 0 16

-- The label of number v by its four lowest binary digits; the first one where v is below -8 or above 7.
abbrev pub label_by : List ℕ → ℤ → ℕ
label_by labels v = cond (lt_z (negsuc 8) v && lt_z v (pos 8)) (get_or labels (bit_and (of_z w16 v) 15) 0) (get_or labels 0 0)
