-- Bits are the numbers 0 and 1. 01 "From bits to cells".
use Rattle.std.specs.Prelude.{ℕ, ◌<◌, List, get_or}

-- Every element of a list is a bit.
pub record Bits (l : List ℕ) : Type 0 where
  pub bit : (k : ℕ) → get_or l k 0 < 2
