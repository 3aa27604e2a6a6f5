-- A rule of a table, proved at each of its numbers by one test that is computed over all of them. Assumes nothing.
use Prim.Native.Nat.{ℕ, zero, suc, ◌<◌}
use mathlib.Core.Path.{◌≡◌, refl}
use mathlib.Core.Bool.{Bool, true, false, ◌&&◌}
use native.Mathlib.Omega.{arith}
use borrow.Author.Tests.{eqb-true, eqb-false}
use lib.Dec.{T, eqb, ltb, eqb→eq, ltb→lt}

-- of two tests that both pass each passes
pub both_left : (a b : Bool) → T (a && b) → T a
both_left true b t = tt
both_left false b t = t

pub both_right : (a b : Bool) → T (a && b) → T b
both_right true b t = t
both_right false b t = absurd t

-- a test passes at each number below n
abbrev pub each : (ℕ → Bool) → ℕ → Bool
each f zero = true
each f (suc n) = f n && each f n

-- at each such number it holds
pub at : (f : ℕ → Bool) (n : ℕ) → T (each f n) → (k : ℕ) → k < n → T (f k)
at f zero t k h = absurd (omega arith)
at f (suc n) t k h = go (at f n (both_right (f n) (each f n) t) k) (eqb k n) refl
  where
    go : (k < n → T (f k)) → (b : Bool) → eqb k n ≡ b → T (f k)
    go below true e = rw (eqb-true k n e) (both_left (f n) (each f n) t)
    go below false e = below (omega (arith, eqb-false k n e))

-- two functions agree below n
pub equal : (f g : ℕ → ℕ) (n : ℕ) → T (each (λ k. eqb (f k) (g k)) n) → (k : ℕ) → k < n → f k ≡ g k
equal f g n t k h = eqb→eq (f k) (g k) (at (λ k. eqb (f k) (g k)) n t k h)

-- one function is less than another below n
pub less : (f g : ℕ → ℕ) (n : ℕ) → T (each (λ k. ltb (f k) (g k)) n) → (k : ℕ) → k < n → f k < g k
less f g n t k h = ltb→lt (f k) (g k) (at (λ k. ltb (f k) (g k)) n t k h)
