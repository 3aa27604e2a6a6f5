-- The places as a table, and what making it requires and promises: nothing of 01 is stated here.
use Rattle.std.specs.Prelude.{ℕ, ◌+◌, ◌*◌, ◌^◌, ◌<◌, ◌≡◌, cond, List, length, set, ltb}
use Rattle.lists.specs.Lists.{table}
use Rattle.interleaver.specs.Interleaving.{place}
use Rattle.interleaver.specs.Deinterleaving.{Interleaves}

-- P(0) .. P(n - 1).
unfoldable pub places : ℕ → ℕ → List ℕ
places t n = table (place t n) 0 n

-- A number's room at the end of a table.
pub record Keeps (x end : ℕ) (out : List ℕ) : Type 0 where
  pub small : x < 65536
  pub room : end < length out

-- The number stands there, and where it is below n the end goes on.
pub record Kept (n x end : ℕ) (out : List ℕ) (end' : ℕ) (out' : List ℕ) : Type 0 where
  pub advanced : end' ≡ cond (ltb x n) (end + 1) end
  pub written : out' ≡ set out end x

-- What going on along the walk requires: s is a power of two, and products and sums are far from wrapping.
pub record Leads (factor addend s x : ℕ) : Type 0 where
  pub digits : ℕ
  pub power : s ≡ 2 ^ digits
  pub fits : factor * x + addend < 2 ^ 63

-- Room for the places and one number more.
pub record Tabulates (t n : ℕ) (out : List ℕ) : Type 0 where
  pub fits : Interleaves t n
  pub room : length out ≡ n + 1
