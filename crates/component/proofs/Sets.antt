-- A run of stores after a run of stores. Assumes nothing.
use Prim.Native.Nat.{ℕ, suc, ◌+◌}
use mathlib.Core.Path.{◌≡◌}
use mathlib.Core.List.{List, [], ◌∷◌, ◌++◌}
use native.Mathlib.Nat.{add-zero, add-suc, suc-add}
use lib.ListN.{length, set}
use lib.Seq.{sets}

-- two lists stored one behind the other are their joint list stored
pub sets-append : {A : Type 0} (d : List A) (i : ℕ) (xs ys : List A) → sets d i (xs ++ ys) ≡ sets (sets d i xs) (i + length xs) ys
sets-append d i [] ys = rw add-zero
sets-append d i (a ∷ xs) ys = rw (add-suc, ← suc-add) (sets-append (set d i a) (suc i) xs ys)
