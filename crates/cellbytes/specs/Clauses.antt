-- Numbers that four bits hold, and bytes: nothing of 02 is stated here.
use Rattle.std.specs.Prelude.{ℕ, ◌<◌, ◌≡◌, List, get_or, ℤ, pos}
use Rattle.cellbytes.specs.CellBytes.{signed, four_bits}

-- A number that its four bits give back: -8 to 7.
pub record Small (v : ℤ) : Type 0 where
  pub back : signed (four_bits v) ≡ v

pub record AllSmall (vs : List ℤ) : Type 0 where
  pub small : (k : ℕ) → Small (get_or vs k (pos 0))

-- Every element is below 256.
pub record AllBytes (bs : List ℕ) : Type 0 where
  pub low : (i : ℕ) → get_or bs i 0 < 256
