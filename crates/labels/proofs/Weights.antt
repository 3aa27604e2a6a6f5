-- Level bits added to labels with their weight, and taken out again. Assumes nothing.
use mathlib.Core.Path.{◌≡◌, refl, sym, ap, ap₂, ◌∙◌}
use mathlib.Core.List.{List, [], ◌∷◌, ◌++◌, append-nil}
use Prim.Native.Nat.{ℕ, zero, suc, ◌+◌, ◌-◌, ◌*◌, ◌/◌, ◌%◌, ◌^◌, ◌≤◌, ◌<◌, min}
use native.Mathlib.Nat.{zero-add, mul-le-mul_left}
use native.Mathlib.Omega.{arith}
use lib.Bits.{bit_and, and_high}
use lib.ListN.{length, get_or, take, drop, length-take, length-drop, get_or-append}
use lib.Seq.{get_or-take, get_or-drop, get_or-append-add, length-take-le, take_at, drop_at}
use lib.Pow.{pow-add, pow_pos}
use Rattle.lists.specs.Lists.{table}
use Rattle.interleaver.specs.Deinterleaving.{deinterleaved}
use Rattle.labels.specs.Clauses.{added, Weight}
use Rattle.block.specs.Reading.{taken}
use Rattle.lists.proofs.Tables.{Filled, filled_end, length-table, get_or-table, table_at, table_is, table_ext, table-add, table_from}
use Rattle.interleaver.proofs.Interleaving.{deinterleaved_none}

-- A weight times a bit is at most the weight.
pub weighed_le : (w b : ℕ) → b < 2 → w * b ≤ w
weighed_le w b h = omega (arith, mul-le-mul_left {m = b} {n = 1} w (omega arith))

-- What is filled with sums up to the end is the list with the bits added.
pub added_end : (w i : ℕ) (bits labels out : List ℕ) → i ≡ length labels
    → Filled 0 (λ k. get_or labels k 0 + w * get_or bits k 0) labels out i → out ≡ added w bits labels
unfolding added
added_end w i bits labels out e h = filled_end 0 _ labels out (length labels) refl (rw e at h)

-- There are as many bits as labels.
pub taken-length : (w : ℕ) (labels : List ℕ) → length (taken w labels) ≡ length labels
unfolding taken
taken-length w labels = length-table _ 0 (length labels)

-- Bit i is that of number i.
pub taken_at : (w : ℕ) (labels : List ℕ) (i : ℕ) → i < length labels → get_or (taken w labels) i 0 ≡ get_or labels i 0 / w % 2
unfolding taken
taken_at w labels i h = get_or-table 0 _ (length labels) i h

-- A mask with a weight gives the weight times the bit.
weighed : (w x : ℕ) (h : Weight w) → bit_and x w ≡ x / w % 2 * w
weighed w x h =
    let k = h.digit in
    let e : 2 ^ (1 + k) - 2 ^ k ≡ 2 ^ k = omega (arith, pow-add 2 1 k) in
    rw h.power (rw e at (and_high x 1 k))

-- So the mask is 0 exactly if the bit is 0.
pub weighed-zero : (w x : ℕ) → Weight w → bit_and x w ≡ 0 → 0 ≡ x / w % 2
weighed-zero w x h e = go (x / w % 2) (sym e ∙ weighed w x h)
  where
    go : (m : ℕ) → 0 ≡ m * w → 0 ≡ m
    go zero g = refl
    go (suc m) g = omega (arith, h.power, pow_pos h.digit)

pub weighed-one : (w x : ℕ) → Weight w → (bit_and x w ≡ 0 → ⊥) → 1 ≡ x / w % 2
weighed-one w x h e = go (x / w % 2) (weighed w x h) (omega arith)
  where
    go : (m : ℕ) → bit_and x w ≡ m * w → m < 2 → 1 ≡ m
    go zero g l = absurd (e (omega arith))
    go (suc m) g l = omega arith

-- There are as many sums as labels.
pub added-length : (w : ℕ) (bits labels : List ℕ) → length (added w bits labels) ≡ length labels
unfolding added
added-length w bits labels = length-table _ 0 (length labels)

-- Sum i is number i with its bit added.
pub added_at : (w : ℕ) (bits labels : List ℕ) (i : ℕ) → i < length labels → get_or (added w bits labels) i 0 ≡ get_or labels i 0 + w * get_or bits i 0
unfolding added
added_at w bits labels i h = get_or-table 0 _ (length labels) i h

-- a level's bits of the first labels, and of those after them
pub take-taken : (w n : ℕ) (labels : List ℕ) → take n (taken w labels) ≡ taken w (take n labels)
unfolding taken
take-taken w n labels =
    let f : ℕ → ℕ = λ i. get_or labels i 0 / w % 2 in
    sym (table_is (λ i. get_or (take n labels) i 0 / w % 2) 0 (length (take n labels)) (take n (table f 0 (length labels)))
    (rw (length-take, length-table f 0 (length labels), length-take))
    (λ i h.
    let l : i < min n (length labels) = rw length-take at h in
    rw (get_or-take n labels i 0 (omega arith), get_or-take n (table f 0 (length labels)) i 0 (omega arith), table_at f 0 (length labels) i 0 (omega arith), zero-add)))

pub drop-taken : (w n : ℕ) (labels : List ℕ) → drop n (taken w labels) ≡ taken w (drop n labels)
unfolding taken
drop-taken w n labels =
    let f : ℕ → ℕ = λ i. get_or labels i 0 / w % 2 in
    sym (table_is (λ i. get_or (drop n labels) i 0 / w % 2) 0 (length (drop n labels)) (drop n (table f 0 (length labels)))
    (rw (length-drop, length-table f 0 (length labels), length-drop))
    (λ i h.
    let l : i < length labels - n = rw length-drop at h in
    rw (get_or-drop n labels i 0, get_or-drop n (table f 0 (length labels)) i 0, table_at f 0 (length labels) (n + i) 0 (omega arith), zero-add)))

-- no bits are taken out of no labels
pub taken_none : (t w : ℕ) (d out : List ℕ) → length d ≡ 0 → length out ≡ 0 → out ≡ deinterleaved 0 t (taken w d)
unfolding taken table
taken_none t w [] [] e f = sym (deinterleaved_none 0 t)
taken_none t w [] (x ∷ out) e f = absurd (omega arith)
taken_none t w (x ∷ d) out e f = absurd (omega arith)

-- adding no bits
added_nothing : (w : ℕ) (d : List ℕ) → added w [] d ≡ d
unfolding added
added_nothing w d = table_is _ 0 (length d) d refl (λ i h. omega arith)

-- bits are added to the first labels, and further bits to those after them
added-append : (w : ℕ) (x y d : List ℕ) (n : ℕ) → length x ≡ n → n ≤ length d
    → added w (x ++ y) d ≡ added w x (take n d) ++ added w y (drop n d)
unfolding added
added-append w x y d n e h =
    let m : ℕ = length d - n in
    let f : ℕ → ℕ = λ i. get_or d i 0 + w * get_or (x ++ y) i 0 in
    let g₁ : ℕ → ℕ = λ i. get_or (take n d) i 0 + w * get_or x i 0 in
    let g₂ : ℕ → ℕ = λ i. get_or (drop n d) i 0 + w * get_or y i 0 in
    let p₁ : table f 0 n ≡ table g₁ 0 n = table_ext f g₁ 0 n (λ i a b. rw (get_or-take n d i 0 (omega arith), get_or-append x y 0 i (omega arith))) in
    let p₂ : table f n m ≡ table g₂ 0 m =
    table_from f n m ∙ table_ext (λ i. f (n + i)) g₂ 0 m (λ i a b. rw (get_or-drop n d i 0, ← e, get_or-append-add x y i 0)) in
    rw (length-take-le n d h, length-drop n d)
    (ap (table f 0) {x = length d} {y = n + m} (omega arith) ∙ table-add f 0 n m ∙ ap₂ ◌++◌ p₁ (rw zero-add p₂))

-- with bits for the first n labels only, those after them stay
pub added-front : (w : ℕ) (x d : List ℕ) (n : ℕ) → length x ≡ n → n ≤ length d → added w x d ≡ added w x (take n d) ++ drop n d
added-front w x d n e h = rw (append-nil x, added_nothing w (drop n d)) at (added-append w x [] d n e h)

pub added-rest : (w : ℕ) (x d : List ℕ) (n : ℕ) → length x ≡ n → n ≤ length d → drop n (added w x d) ≡ drop n d
added-rest w x d n e h =
    rw (added-front w x d n e h) (drop_at (added w x (take n d)) (drop n d) n (added-length w x (take n d) ∙ length-take-le n d h))

-- bits added to labels, and further bits to those after the first n
pub added-behind : (w : ℕ) (x y d : List ℕ) (n : ℕ) → length x ≡ n → n ≤ length d
    → added w (x ++ y) d ≡ take n (added w x d) ++ added w y (drop n (added w x d))
added-behind w x y d n e h =
    let l : length (added w x (take n d)) ≡ n = added-length w x (take n d) ∙ length-take-le n d h in
    rw (added-front w x d n e h, take_at (added w x (take n d)) (drop n d) n l, drop_at (added w x (take n d)) (drop n d) n l) (added-append w x y d n e h)

-- what is filled with the bits of all labels are the bits taken out of them
pub taken-filled : (w i : ℕ) (labels d out : List ℕ) → length d ≡ length labels → i ≡ length labels
    → Filled 0 (λ k. get_or labels k 0 / w % 2) d out i → out ≡ taken w labels
unfolding taken
taken-filled w i labels d out e n F = filled_end 0 _ d out (length labels) e (rw n at F)
