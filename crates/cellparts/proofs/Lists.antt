-- A buffer written in two parts, and lists in two parts. Assumes nothing.
use Prim.Native.Nat.{ℕ, ◌+◌, ◌-◌, ◌*◌, ◌/◌, ◌%◌, ◌≤◌, ◌<◌}
use mathlib.Core.Path.{◌≡◌, sym, ap₂, ◌∙◌}
use mathlib.Core.Logic.{◌⊎◌, inl, inr}
use mathlib.Core.Bool.{Bool, true, false, cond}
use mathlib.Core.List.{List, ◌++◌}
use native.Mathlib.Omega.{arith}
use lib.ListN.{length, get_or, take, drop, length-take, length-drop, get_or-eq_default}
use lib.Seq.{get_or-take, get_or-drop, length-take-le}
use lib.IntN.{ℤ, pos}
use lib.Dec.{eqb}
use Rattle.lists.specs.Lists.{table}
use Rattle.lists.proofs.Counting.{below_or}
use Rattle.lists.proofs.Tables.{table_ext, table_from, table-parts, table-take, table-drop}
use Rattle.block.specs.Mapping.{Labellings, axis, weave}
use Rattle.mapping.specs.Labels.{coordinates}
use Rattle.mapping.specs.Clauses.{ThreeBits}

-- the first labels of level bits, and those after them
pub labels_take : {l : List ℕ} (n : ℕ) → ThreeBits l → ThreeBits (take n l)
labels_take {l} n N = record { low = λ k. go k (below_or k n) }
  where
    go : (k : ℕ) → (k < n) ⊎ (n ≤ k) → get_or (take n l) k 0 < 8
    go k (inl h) = rw (get_or-take n l k 0 h) (N.low k)
    go k (inr h) = rw (get_or-eq_default (take n l) 0 {n = k} (rw length-take (omega arith))) (omega arith)

pub labels_drop : {l : List ℕ} (n : ℕ) → ThreeBits l → ThreeBits (drop n l)
labels_drop {l} n N = record { low = λ k. rw (get_or-drop n l k 0) (N.low (n + k)) }

-- the coordinates of whole cells, and those of the cells after them
pub coordinates-parts : (k : Labellings) (labels : List ℕ) (n : ℕ) → 2 * n ≤ length labels
    → coordinates k (take (2 * n) labels) ++ coordinates k (drop (2 * n) labels) ≡ coordinates k labels
unfolding coordinates axis
coordinates-parts k labels n h =
    let f : ℕ → ℤ = λ j. get_or (axis k j) (get_or labels j 0) (pos 0) in
    let g : ℕ → ℤ = λ j. get_or (axis k j) (get_or (take (2 * n) labels) j 0) (pos 0) in
    let d : ℕ → ℤ = λ j. get_or (axis k j) (get_or (drop (2 * n) labels) j 0) (pos 0) in
    let m : ℕ = length labels - 2 * n in
    let a : table g 0 (2 * n) ≡ table f 0 (2 * n) = table_ext g f 0 (2 * n) (λ i x y. rw (get_or-take (2 * n) labels i 0 (omega arith))) in
    let b : table d 0 m ≡ table f (2 * n) m =
    table_ext d (λ i. f (2 * n + i)) 0 m (λ i x y.
    let r : (2 * n + i) % 2 ≡ i % 2 = omega arith in rw (get_or-drop (2 * n) labels i 0, r))
    ∙ sym (table_from f (2 * n) m) in
    rw (length-take-le (2 * n) labels h, length-drop (2 * n) labels)
    (ap₂ ◌++◌ a b ∙ sym (table-parts f (2 * n) (length labels) h))

module _ (re im : List ℕ) (n : ℕ) (h : n ≤ length re) where
  w : ℕ → ℕ
  w j = get_or (cond (eqb (j % 2) 0) re im) (j / 2) 0

  -- the first labels of two axes woven
  pub weave-take : weave (take n re) (take n im) ≡ take (2 * n) (weave re im)
  unfolding weave w
  weave-take =
      rw (length-take-le n re h)
      (table_ext (λ j. get_or (cond (eqb (j % 2) 0) (take n re) (take n im)) (j / 2) 0) w 0 (2 * n) (λ i x y. go i (eqb (i % 2) 0) (omega arith))
      ∙ sym (table-take w (2 * n) (2 * length re) (omega arith)))
    where
      go : (i : ℕ) (b : Bool) → i / 2 < n → get_or (cond b (take n re) (take n im)) (i / 2) 0 ≡ get_or (cond b re im) (i / 2) 0
      go i true l = get_or-take n re (i / 2) 0 l
      go i false l = get_or-take n im (i / 2) 0 l

  -- and those after them
  pub weave-drop : weave (drop n re) (drop n im) ≡ drop (2 * n) (weave re im)
  unfolding weave w
  weave-drop =
      let m : 2 * (length re - n) ≡ 2 * length re - 2 * n = omega arith in
      rw (length-drop n re, m)
      (table_ext (λ j. get_or (cond (eqb (j % 2) 0) (drop n re) (drop n im)) (j / 2) 0) (λ j. w (2 * n + j)) 0 (2 * length re - 2 * n)
      (λ i x y.
      let r : (2 * n + i) % 2 ≡ i % 2 = omega arith in
      let q : (2 * n + i) / 2 ≡ n + i / 2 = omega arith in
      rw (r, q) (go i (eqb (i % 2) 0)))
      ∙ sym (table_from w (2 * n) (2 * length re - 2 * n)) ∙ sym (table-drop w (2 * n) (2 * length re) (omega arith)))
    where
      go : (i : ℕ) (b : Bool) → get_or (cond b (drop n re) (drop n im)) (i / 2) 0 ≡ get_or (cond b re im) (n + i / 2) 0
      go i true = get_or-drop n re (i / 2) 0
      go i false = get_or-drop n im (i / 2) 0
