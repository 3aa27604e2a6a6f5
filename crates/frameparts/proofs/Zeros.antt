-- A list of zeros and its sum. Assumes nothing.
use Prim.Native.Nat.{ℕ, zero, suc, ◌+◌}
use mathlib.Core.Path.{◌≡◌, refl, sym, ◌∙◌}
use mathlib.Core.Bool.{Bool}
use mathlib.Core.List.{List, [], ◌∷◌}
use native.Mathlib.Nat.{zero-add}
use native.Mathlib.Omega.{arith}
use borrow.Author.Tests.{ne_eqb}
use lib.Dec.{eqb}
use Rattle.std.specs.List.{list_all}
use Rattle.lists.specs.Lists.{total}

-- every number is zero exactly if the sum is
zeros-total : (l : List ℕ) → list_all (λ x. eqb x 0) l ≡ eqb (total l) 0
unfolding total
zeros-total [] = refl
zeros-total (zero ∷ l) = rw zero-add (zeros-total l)
zeros-total (suc x ∷ l) = rw (ne_eqb (suc x) 0 (omega arith)) (sym (ne_eqb (suc x + total l) 0 (omega arith)))

pub all_zero_lem : (l : List ℕ) (b : Bool) → b ≡ list_all (λ x. eqb x 0) l → b ≡ eqb (total l) 0
all_zero_lem l b e = e ∙ zeros-total l
