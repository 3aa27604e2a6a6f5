-- Two slices' lengths tested one after the other.
use Prim.Native.Nat.{ℕ}
use mathlib.Core.Path.{◌≡◌}
use mathlib.Core.Bool.{Bool, cond, ◌&&◌}
use lib.Dec.{eqb}
use borrow.Author.Tests.{eq-eqb, ne_eqb}

pub first_wrong : {A : Type 0} (x y : A) (m n : ℕ) (b : Bool) → (m ≡ n → ⊥) → y ≡ cond (eqb m n && b) x y
first_wrong x y m n b h = rw (ne_eqb m n h)

pub second_wrong : {A : Type 0} (x y : A) (m n m' n' : ℕ) → m ≡ n → (m' ≡ n' → ⊥) → y ≡ cond (eqb m n && eqb m' n') x y
second_wrong x y m n m' n' e h = rw (eq-eqb m n e, ne_eqb m' n' h)

pub both_right : {A : Type 0} (x y : A) (m n m' n' : ℕ) → m ≡ n → m' ≡ n' → x ≡ cond (eqb m n && eqb m' n') x y
both_right x y m n m' n' e e' = rw (eq-eqb m n e, eq-eqb m' n' e')
