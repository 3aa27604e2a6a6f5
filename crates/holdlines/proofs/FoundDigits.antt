-- A number below 16 is found, and any other is not. Assumes nothing.
use Prim.Native.Nat.{ℕ, ◌≤◌, ◌<◌}
use mathlib.Core.Path.{◌≡◌, sym, ap, ◌∙◌}
use mathlib.Core.Logic.{inl, inr}
use native.Mathlib.Omega.{arith}
use borrow.Author.Tests.{lt-ltb, le-ltb}
use Rattle.std.proofs.Common.{Option, Some, None}
use Rattle.std.specs.Option.{unwrap_or}
use Rattle.std.proofs.lemmas.Option.{none-some, same_Some}
use Rattle.lists.proofs.Counting.{below_or}
use Rattle.holdlines.specs.Clauses.{found}

pub found_there : (n : ℕ) → n < 16 → found n ≡ Some n
unfolding found
found_there n h = rw (lt-ltb n 16 h)

pub found_none : (n : ℕ) → 16 ≤ n → found n ≡ None
unfolding found
found_none n h = rw (le-ltb n 16 h)

pub found_is : (n m : ℕ) → Some m ≡ found n → (m ≡ n) × (m < 16)
found_is n m e =
    elim (below_or n 16) [
      | inl l ↦ let s : m ≡ n = same_Some m n (e ∙ found_there n l) in (s, omega (arith, s))
      | inr l ↦ absurd (none-some m (sym (found_none n l) ∙ sym e))
    ]

pub missing : (n : ℕ) → None ≡ found n → 16 ≤ n
missing n e = elim (below_or n 16) [ inl l ↦ absurd (none-some n (e ∙ found_there n l)) | inr l ↦ l ]

-- What is not found since a part of it is not.
pub not_found : (n k : ℕ) → (n < 16 → k < 16) → None ≡ found k → None ≡ found n
not_found n k f e = elim (below_or n 16) [ inl l ↦ absurd (omega (arith, f l, missing k e)) | inr l ↦ sym (found_none n l) ]

-- What is found, where it is known that there is a digit.
pub found_or : (n r : ℕ) (o : Option ℕ) → n < 16 → o ≡ found n → r ≡ unwrap_or o 0 → r ≡ n
found_or n r o h e f = f ∙ ap (λ (x : Option ℕ). unwrap_or x 0) (e ∙ found_there n h)
