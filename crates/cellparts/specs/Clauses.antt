-- What the functions of this crate require of the buffers that they are lent: nothing of 01 is stated here.
use Rattle.std.specs.Prelude.{ℕ, ◌*◌, ◌≤◌, ◌≡◌, false, List, length, ℤ}
use Rattle.block.specs.declared.Constellation.{Constellation}
use Rattle.block.specs.Mapping.{is_mixed}
use Rattle.mapping.specs.Clauses.{ThreeBits}

-- Labels of a constellation whose axes have one labelling, those of the first n1 cells being part A's.
pub record MapsParts (c : Constellation) (n1 : ℕ) (labels : List ℕ) (out : List ℤ) : Type 0 where
  pub one : is_mixed c ≡ false
  pub same : length out ≡ length labels
  pub part : 2 * n1 ≤ length labels
  pub high : length labels ≤ 16384
  pub low : ThreeBits labels

-- Labels of both axes, a number a cell, the first n1 of which are part A's.
pub record MapsAxesParts (n1 : ℕ) (re im : List ℕ) (out : List ℤ) : Type 0 where
  pub same : length out ≡ 2 * length re
  pub both : length im ≡ length re
  pub part : n1 ≤ length re
  pub high : length re ≤ 16384
  pub low_real : ThreeBits re
  pub low_imaginary : ThreeBits im
