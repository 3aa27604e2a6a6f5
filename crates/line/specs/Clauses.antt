-- What inner functions require and promise: nothing of the papers is stated here.
use Rattle.std.specs.Prelude.{ℕ, ◌+◌, ◌*◌, ◌<◌, cond, ltb, List, length, get_or, Option, Some, None}
use Rattle.line.specs.Read.{digit_of}

-- The two bytes of which byte k is made are digits.
pub record HexByte (bytes : List ℕ) (k : ℕ) : Type 0 where
  pub inside : 2 * k + 1 < length bytes
  pub high : digit_of (get_or bytes (2 * k) 0) < 16
  pub low : digit_of (get_or bytes (2 * k + 1) 0) < 16

-- A digit as the code finds it, and none for a number that no digit has.
-- Stays: `holdlines` `Clauses.found` is the same one; neither crate is built on the other.
unfoldable pub found : ℕ → Option ℕ
found n = cond (ltb n 16) (Some n) None
