-- The inverse of the interleaver, and what its functions require. 01 "Bit interleaving"; 001 clauses 7.3.3 and 7.6.
use Rattle.std.specs.Prelude.{◌≡◌, List, [], ◌∷◌, ℕ, suc, ◌%◌, ◌≤◌, ◌<◌, length, set, replicate}
use Rattle.interleaver.specs.Interleaving.{place}

-- Input i, i + 1, .. go back to places P(i), P(i + 1), ..
unfoldable pub put_back : {A : Type 0} → ℕ → ℕ → ℕ → List A → List A → List A
put_back t n i [] out = out
put_back t n i (a ∷ v) out = put_back t n (suc i) v (set out (place t n i) a)

-- Output P(i) is input i; z stands at a place to which nothing goes back, of which there is none.
unfoldable pub deinterleaved : {A : Type 0} → A → ℕ → List A → List A
deinterleaved z t v = put_back t (length v) 0 v (replicate (length v) z)

-- The places P(0), P(1), .. have a cycle: n is 5 or more (s is then 8 or more), and t is one more than a multiple of 4.
pub record Cycles (t n : ℕ) : Type 0 where
  pub low : 5 ≤ n
  pub factor : t % 4 ≡ 1

-- What working out s requires of n.
pub record Sizes (n : ℕ) : Type 0 where
  pub low : 1 ≤ n
  pub high : n ≤ 16384

-- What the interleaver's functions require of t and n.
pub record Interleaves (t n : ℕ) : Type 0 where
  pub cycles : Cycles t n
  pub high : n ≤ 16384
  pub small : t < 64
