-- What inner functions require: nothing of 02 is stated here.
use Rattle.std.specs.Prelude.{ℕ, ◌≤◌}

-- L2 holds a byte, and a count of 32 bits.
pub record Counts (bits n : ℕ) : Type 0 where
  pub some : 8 ≤ bits
  pub few : bits ≤ 65535
  pub low : n ≤ 4294967295
