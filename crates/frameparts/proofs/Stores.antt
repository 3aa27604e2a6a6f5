-- Lists stored into a list. Assumes nothing.
use Prim.Native.Nat.{ℕ, suc, ◌+◌, ◌-◌, ◌≤◌, ◌<◌}
use mathlib.Core.Path.{◌≡◌, refl, ap, ◌∙◌}
use mathlib.Core.List.{List, [], ◌∷◌, ◌++◌, append_assoc}
use native.Mathlib.Omega.{arith}
use lib.ListN.{length, set, take, drop, length-drop}
use lib.Seq.{sets, sets-eq, set_comm, drop-drop, length-sets, length-take-le}
use Rattle.lists.proofs.Parts.{from_start, to_end}
use Rattle.frameparts.specs.Clauses.{Puts}

-- a part of a list written anew
pub part-stored : {A : Type 0} (l x : List A) (i n : ℕ) → length x ≡ n → i + n ≤ length l → take i l ++ (x ++ drop n (drop i l)) ≡ sets l i x
part-stored l x i n e h =
    rw (sets-eq x l i (omega arith), append_assoc (take i l) x (drop (i + length x) l), drop-drop n i l, e)

-- two lists stored at places apart, in either order
set_past : {A : Type 0} (l : List A) (i j : ℕ) (a : A) (ys : List A) → i < j → sets (set l i a) j ys ≡ set (sets l j ys) i a
set_past l i j a [] h = refl
set_past l i j a (b ∷ ys) h = rw (set_comm l i j a b (λ e. absurd (omega arith))) (set_past (set l j b) i (suc j) a ys (omega arith))

pub sets-apart : {A : Type 0} (l : List A) (i j : ℕ) (xs ys : List A) → i + length xs ≤ j → sets (sets l i xs) j ys ≡ sets (sets l j ys) i xs
sets-apart l i j [] ys h = refl
sets-apart l i j (a ∷ xs) ys h =
    sets-apart (set l i a) (suc i) j xs ys (omega arith) ∙ ap (λ m. sets m (suc i) xs) (set_past l i j a ys (omega arith))

-- the part of a list from i to i + n
less : (i n : ℕ) → (i + n) - i ≡ n
less i n = omega arith

-- the two parts of a logical frame, copied to their places
pub both_stored : (frame parts : List ℕ) (a toa tob : ℕ) {x y : List ℕ} → Puts frame a toa tob parts → x ≡ take (a - 0) frame → y ≡ take (length frame - a) (drop a frame)
    → let b = length frame - a in
    let one = take toa parts ++ (x ++ drop ((toa + a) - toa) (drop toa parts)) in
    take tob one ++ (y ++ drop ((tob + b) - tob) (drop tob one)) ≡ sets (sets parts toa (take a frame)) tob (drop a frame)
both_stored frame parts a toa tob p ex ey =
    let b = length frame - a in
    let one : take toa parts ++ (take a frame ++ drop a (drop toa parts)) ≡ sets parts toa (take a frame) =
    part-stored parts (take a frame) toa a (length-take-le a frame p.short) p.room_a in
    rw (ex, ey, from_start a, to_end a frame, less toa a, less tob b, one)
    (part-stored (sets parts toa (take a frame)) (drop a frame) tob b (length-drop a frame) (rw (length-sets parts toa (take a frame)) p.room_b))
