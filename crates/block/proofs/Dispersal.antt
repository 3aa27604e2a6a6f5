-- Dispersal undoes itself, and goes on from any bit. Assumes nothing.
use Prim.Native.Nat.{ℕ, zero, suc, ◌+◌, ◌-◌, ◌%◌, ◌≤◌, ◌<◌}
use mathlib.Core.Path.{◌≡◌, refl, sym, ap, ap₂, ◌∙◌}
use mathlib.Core.List.{List, [], ◌∷◌, ◌++◌, append-nil, append_assoc}
use mathlib.Core.Logic.{◌⊎◌, inl, inr}
use native.Mathlib.Nat.{add-zero, add-suc, suc-add}
use native.Mathlib.Omega.{arith}
use lib.ListN.{length, get_or, take, drop, length-take, length-drop, length-append, take-append-drop, drop_of_length-le}
use lib.Seq.{take_at, drop_at, take_all, take-append-le, drop-append-le, take-append-add, drop-append-add}
use Rattle.component.specs.Bits.{Bits}
use Rattle.lists.proofs.Counting.{below_or}
use Rattle.component.proofs.Bits.{bits-nil, bits-cons, bits_head, bits-rest, bits-append, bits-drop}
use Rattle.block.proofs.Lists.{bits-take}
use Rattle.block.specs.Dispersal.{sequence, p, dispersed, dispersed_parts, dispersed_from}

-- a bit of the sequence
pub p_bit : (n : ℕ) → p n < 2
unfolding p sequence
p_bit n = omega arith

-- dispersal keeps the length
pub length-dispersed : (k : ℕ) (xs : List ℕ) → length (dispersed k xs) ≡ length xs
unfolding dispersed
length-dispersed k [] = refl
length-dispersed k (a ∷ xs) = ap suc (length-dispersed (suc k) xs)

-- what it gives is bits
pub bits-dispersed : (k : ℕ) (xs : List ℕ) → Bits (dispersed k xs)
unfolding dispersed
bits-dispersed k [] = bits-nil
bits-dispersed k (a ∷ xs) = bits-cons (omega arith) (bits-dispersed (suc k) xs)

-- dispersal of two lists, one after the other
pub dispersed-append : (k : ℕ) (xs ys : List ℕ) → dispersed k (xs ++ ys) ≡ dispersed k xs ++ dispersed (k + length xs) ys
unfolding dispersed
dispersed-append k [] ys = rw add-zero
dispersed-append k (a ∷ xs) ys = ap (λ l. ((a + p k) % 2) ∷ l) (dispersed-append (suc k) xs ys ∙ rw (add-suc, suc-add))

-- dispersal undoes itself
pub dispersed_twice : (k : ℕ) {xs : List ℕ} → Bits xs → dispersed k (dispersed k xs) ≡ xs
unfolding dispersed
dispersed_twice k {xs = []} B = refl
dispersed_twice k {xs = a ∷ xs} B = ap₂ ◌∷◌ (omega (arith, bits_head B)) (dispersed_twice (suc k) (bits-rest B))

-- every bit that dispersal gives
pub get_or-dispersed : (k : ℕ) (xs : List ℕ) (i : ℕ) → i < length xs → get_or (dispersed k xs) i 0 ≡ (get_or xs i 0 + p (k + i)) % 2
unfolding dispersed
get_or-dispersed k [] i h = absurd (omega arith)
get_or-dispersed k (a ∷ xs) zero h = rw add-zero
get_or-dispersed k (a ∷ xs) (suc i) h = rw (add-suc, ← suc-add) (get_or-dispersed (suc k) xs i (omega arith))

-- the same of the two parts, each with a sequence of its own
pub length-dispersed_parts : (v : ℕ) (xs : List ℕ) → length (dispersed_parts v xs) ≡ length xs
unfolding dispersed_parts
length-dispersed_parts v xs = rw (length-append, length-dispersed, length-dispersed, ← length-append, take-append-drop)

pub bits-dispersed_parts : (v : ℕ) (xs : List ℕ) → Bits (dispersed_parts v xs)
unfolding dispersed_parts
bits-dispersed_parts v xs = bits-append (bits-dispersed 0 (take v xs)) (bits-dispersed 0 (drop v xs))

pub dispersed_parts_twice : (v : ℕ) {xs : List ℕ} → v ≤ length xs → Bits xs → dispersed_parts v (dispersed_parts v xs) ≡ xs
unfolding dispersed_parts
dispersed_parts_twice v {xs} h B =
    let l : length (dispersed 0 (take v xs)) ≡ v = length-dispersed 0 (take v xs) ∙ length-take v xs ∙ omega arith in
    rw (take_at _ (dispersed 0 (drop v xs)) v l, drop_at _ (dispersed 0 (drop v xs)) v l, dispersed_twice 0 (bits-take v B), dispersed_twice 0 (bits-drop v B))
    (take-append-drop v xs)

-- from the first bit on
pub from_first : (v : ℕ) (xs : List ℕ) → dispersed_from v 0 xs ≡ dispersed_parts v xs
unfolding dispersed_from dispersed_parts
from_first v xs = let a : 0 - v ≡ 0 = omega arith in let b : v - 0 ≡ v = omega arith in rw (a, b)

pub length-dispersed_from : (v c : ℕ) (xs : List ℕ) → length (dispersed_from v c xs) ≡ length xs
unfolding dispersed_from
length-dispersed_from v c xs = rw (length-append, length-dispersed, length-dispersed, ← length-append, take-append-drop)

pub dispersed-nil : (t : ℕ) → dispersed t [] ≡ []
unfolding dispersed
dispersed-nil t = refl

-- Two halves treated one after the other are the whole, wherever the cut is.
pub from_append : (v c : ℕ) (xs ys : List ℕ) → dispersed_from v c (xs ++ ys) ≡ dispersed_from v c xs ++ dispersed_from v (c + length xs) ys
unfolding dispersed_from
from_append v c xs ys = go (below_or (length xs) (v - c))
  where
    go : (length xs < v - c) ⊎ (v - c ≤ length xs) → dispersed c (take (v - c) (xs ++ ys)) ++ dispersed (c - v) (drop (v - c) (xs ++ ys))
        ≡ dispersed c (take (v - c) xs) ++ dispersed (c - v) (drop (v - c) xs)
        ++ (dispersed (c + length xs) (take (v - (c + length xs)) ys) ++ dispersed (c + length xs - v) (drop (v - (c + length xs)) ys))
    go (inl h) =
        let m : v - c ≡ length xs + (v - (c + length xs)) = omega arith in
        let t : take (v - c) (xs ++ ys) ≡ xs ++ take (v - (c + length xs)) ys = rw m (take-append-add xs ys (v - (c + length xs))) in
        let d : drop (v - c) (xs ++ ys) ≡ drop (v - (c + length xs)) ys = rw m (drop-append-add xs ys (v - (c + length xs))) in
        let z : c + length xs - v ≡ c - v = omega arith in
        rw (t, d, z, take_all (v - c) xs (omega arith), drop_of_length-le xs {i = v - c} (omega arith), dispersed-nil (c - v), append-nil (dispersed c xs), dispersed-append c xs (take (v - (c + length xs)) ys))
        (append_assoc (dispersed c xs) _ _)
    go (inr h) =
        let a : v - (c + length xs) ≡ 0 = omega arith in
        let b : c + length xs - v ≡ c - v + length (drop (v - c) xs) = omega (arith, length-drop (v - c) xs) in
        rw (take-append-le (v - c) xs ys h, drop-append-le (v - c) xs ys h, a, b, dispersed-append (c - v) (drop (v - c) xs) ys, dispersed-nil (c + length xs))
        (sym (append_assoc (dispersed c (take (v - c) xs)) _ _))
