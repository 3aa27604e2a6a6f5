-- What the functions of this crate require and promise: nothing of 02 is stated here.
use Rattle.std.specs.Prelude.{ℕ, ◌*◌, ◌<◌, true, List, ◌≡◌, length, ℤ, Float}
use Rattle.block.specs.declared.Constellation.{Constellation}
use Rattle.measured.specs.Calls.{axis_bits, pass, points_of}

-- Two values for each kind.
pub record Lent (kinds : List ℕ) (values : List Float) : Type 0 where
  pub two : length values ≡ 2 * length kinds

-- cell_at requires one of the cells lent.
pub record HasCell (kinds : List ℕ) (values : List Float) (k : ℕ) : Type 0 where
  pub lent : Lent kinds values
  pub low : k < length kinds

-- decide_points requires cells of which none is refused, and room for their points.
pub record PointsFit (kinds : List ℕ) (values : List Float) (points : List ℤ) : Type 0 where
  pub lent : Lent kinds values
  pub passed : pass kinds values ≡ true
  pub room : length points ≡ 2 * length kinds

-- bit_at requires the points, a number and a level.
pub record BitFits (c : Constellation) (kinds : List ℕ) (values : List Float) (points : List ℤ) (m l : ℕ) : Type 0 where
  pub lent : Lent kinds values
  pub are : points ≡ points_of c kinds values
  pub number : m < 2 * length kinds
  pub low : l < 3

-- decide_bits requires the points, and room for the bits.
pub record BitsFit (c : Constellation) (kinds : List ℕ) (values : List Float) (points : List ℤ) (bits : List ℕ) : Type 0 where
  pub lent : Lent kinds values
  pub are : points ≡ points_of c kinds values
  pub room : length bits ≡ 2 * axis_bits c * length kinds
