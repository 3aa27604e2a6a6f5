-- The disagreement of values with bits, one after the other. Assumes nothing.
use Prim.Native.Nat.{ℕ, suc, ◌+◌, ◌≤◌}
use mathlib.Core.Path.{◌≡◌, refl, ap}
use mathlib.Core.List.{List, [], ◌∷◌, ◌++◌}
use native.Mathlib.Nat.{zero-add, add_assoc}
use native.Mathlib.Omega.{arith}
use lib.ListN.{length, get_or, drop}
use lib.Seq.{drop-drop}
use Rattle.trellis.specs.Nearest.{differs, disagreement}

-- an unknown value disagrees with nothing
pub differs_unknown : (bit : ℕ) → differs 2 bit ≡ 0
unfolding differs
differs_unknown bit = refl

-- missing bits count nothing
pub none_disagreed : (values : List ℕ) → disagreement values [] ≡ 0
unfolding disagreement
none_disagreed [] = refl
none_disagreed (v ∷ vs) = refl

-- the first value and the rest, also where there is none
pub disagreement-first : (values : List ℕ) (bit : ℕ) (bits : List ℕ)
    → disagreement values (bit ∷ bits) ≡ differs (get_or values 0 2) bit + disagreement (drop 1 values) bits
unfolding disagreement differs
disagreement-first [] bit bits = refl
disagreement-first (v ∷ vs) bit bits = refl

-- bits after bits
pub disagreement-append : (values xs ys : List ℕ)
    → disagreement values (xs ++ ys) ≡ disagreement values xs + disagreement (drop (length xs) values) ys
disagreement-append values [] ys = rw (none_disagreed, zero-add)
disagreement-append values (x ∷ xs) ys =
    let e : 1 + length xs ≡ suc (length xs) = omega arith in
    rw (disagreement-first values x (xs ++ ys), disagreement-first values x xs, disagreement-append (drop 1 values) xs ys, drop-drop, add_assoc, e)

-- values past the last bit count nothing
pub disagreement_more : (values more bits : List ℕ) → length bits ≤ length values
    → disagreement (values ++ more) bits ≡ disagreement values bits
unfolding disagreement
disagreement_more [] more [] h = none_disagreed more
disagreement_more [] more (b ∷ bits) h = absurd (omega arith)
disagreement_more (v ∷ vs) more [] h = refl
disagreement_more (v ∷ vs) more (b ∷ bits) h = ap (λ n. differs v b + n) (disagreement_more vs more bits (omega arith))
