-- Two's-complement numbers and their digits give each other back. Assumes nothing.
use Prim.Native.Nat.{ℕ, ◌-◌, ◌/◌, ◌%◌, ◌≤◌, ◌<◌}
use mathlib.Core.Path.{◌≡◌, ap, ◌∙◌}
use mathlib.Core.Logic.{inl, inr}
use native.Mathlib.Nat.{mod-lt, mod-eq_of_lt}
use native.Mathlib.Omega.{arith}
use borrow.Author.Tests.{lt-ltb, le-ltb}
use lib.IntN.{ℤ, pos, negsuc}
use Rattle.lists.proofs.Counting.{below_or}
use Rattle.cellbytes.specs.TwosComplement.{modulo, twos_complement}

-- digits are below m
pub modulo_low : (m : ℕ) (v : ℤ) → 0 < m → modulo m v < m
unfolding modulo
modulo_low m (pos n) h = mod-lt n h
modulo_low m (negsuc n) h = omega arith

-- the lower half stands for numbers from 0 on, the upper one for those below
pub lower : (m n : ℕ) → n < m / 2 → twos_complement m n ≡ pos n
unfolding twos_complement
lower m n h = rw (lt-ltb n (m / 2) h)

pub upper : (m n : ℕ) → m / 2 ≤ n → twos_complement m n ≡ negsuc (m - 1 - n)
unfolding twos_complement
upper m n h = rw (le-ltb n (m / 2) h)

digits_pos : (m n : ℕ) → n < m → modulo m (pos n) ≡ n
unfolding modulo
digits_pos m n h = mod-eq_of_lt h

digits_neg : (m n : ℕ) → n < m → modulo m (negsuc n) ≡ m - 1 - n
unfolding modulo
digits_neg m n h = let e : n % m ≡ n = mod-eq_of_lt h in rw e

-- digits below m are those of their number
pub modulo_twos : (m n : ℕ) → n < m → modulo m (twos_complement m n) ≡ n
modulo_twos m n h =
    elim (below_or n (m / 2)) [
      | inl l ↦ ap (modulo m) (lower m n l) ∙ digits_pos m n h
      | inr l ↦ ap (modulo m) (upper m n l) ∙ digits_neg m (m - 1 - n) (omega arith) ∙ omega arith
    ]

-- and a number from -m / 2 to m / 2 - 1 is that of its digits
pub twos_pos : (m n : ℕ) → n < m / 2 → twos_complement m (modulo m (pos n)) ≡ pos n
twos_pos m n h = ap (twos_complement m) (digits_pos m n (omega arith)) ∙ lower m n h

pub twos_neg : (m n : ℕ) → n < m / 2 → twos_complement m (modulo m (negsuc n)) ≡ negsuc n
twos_neg m n h = ap (twos_complement m) (digits_neg m n (omega arith)) ∙ upper m (m - 1 - n) (omega arith) ∙ ap negsuc (omega arith)
