-- Labels of level bits, mapped and woven. Assumes nothing.
use Prim.Native.Nat.{ℕ, zero, suc, ◌+◌, ◌*◌, ◌/◌, ◌%◌, ◌≤◌, ◌<◌}
use mathlib.Core.Path.{◌≡◌, refl, sym, ap, ◌∙◌}
use mathlib.Core.Logic.{◌⊎◌, inl, inr}
use mathlib.Core.Bool.{cond}
use mathlib.Core.List.{List, ◌∷◌}
use native.Mathlib.Omega.{arith}
use borrow.Author.Tests.{eq-eqb, ne_eqb}
use lib.ListN.{length, get_or}
use lib.IntN.{ℤ, pos}
use lib.Dec.{eqb}
use Rattle.lists.specs.Lists.{table}
use Rattle.lists.proofs.Counting.{below_or}
use Rattle.lists.proofs.Tables.{length-table, get_or-table, table_ext}
use Rattle.block.specs.Mapping.{Labellings, axis, label_at, mapped, weave, woven}
use Rattle.mapping.specs.Labels.{coordinates}
use Rattle.multilevel.specs.Clauses.{stepped}
use Rattle.mapping.proofs.Coordinates.{weave_even, weave_odd}

-- mapping of streams is that of their labels
pub mapped_labels : (k : Labellings) (n : ℕ) (ys : List (List ℕ)) → coordinates k (table (label_at ys) 0 n) ≡ mapped k n ys
unfolding coordinates mapped
mapped_labels k n ys =
    let f : ℕ → ℤ = λ j. get_or (axis k j) (get_or (table (label_at ys) 0 n) j 0) (pos 0) in
    let g : ℕ → ℤ = λ j. get_or (axis k j) (label_at ys j) (pos 0) in
    rw (length-table (label_at ys) 0 n)
    (table_ext f g 0 n (λ i x y. ap (λ m. get_or (axis k i) m (pos 0)) (get_or-table 0 (label_at ys) n i (omega arith))))

-- levels in pairs: the first m pairs of streams f l, f (l + 1), .. of n bits each
module _ (f : ℕ → List ℕ) (n count : ℕ) (long : (i : ℕ) → i < count → length (f i) ≡ n) (j : ℕ) (h : j < n) where
  -- a pair before others
  pairs : (l m : ℕ) → woven (stepped f l 1 (2 * suc m)) ≡ weave (f l) (f (l + 1)) ∷ woven (stepped f (l + 2) 1 (2 * m))
  unfolding stepped woven
  pairs l m =
      let e : 2 * suc m ≡ suc (suc (2 * m)) = omega arith in
      let g : l + 1 + 1 ≡ l + 2 = omega arith in
      rw (e, g)

  -- the number of the real axis
  number_even : (l m : ℕ) → l + 2 * m ≤ count → label_at (woven (stepped f l 1 (2 * m))) (2 * j) ≡ label_at (stepped f l 2 m) j
  unfolding label_at stepped woven
  number_even l zero b = refl
  number_even l (suc m) b =
      rw (pairs l m, weave_even (f l) (f (l + 1)) j (rw (long l (omega arith)) h), number_even (l + 2) m (omega arith))

  -- and of the imaginary axis
  number_odd : (l m : ℕ) → l + 2 * m ≤ count → label_at (woven (stepped f l 1 (2 * m))) (2 * j + 1) ≡ label_at (stepped f (l + 1) 2 m) j
  unfolding label_at stepped woven
  number_odd l zero b = refl
  number_odd l (suc m) b =
      let g : l + 2 + 1 ≡ l + 1 + 2 = omega arith in
      rw (pairs l m, weave_odd (f l) (f (l + 1)) j (rw (long l (omega arith)) h), number_odd (l + 2) m (omega arith), g)

-- the labels of woven streams are those of both axes woven
pub labels_woven : (f : ℕ → List ℕ) (n m : ℕ) → ((i : ℕ) → i < 2 * m → length (f i) ≡ n)
    → weave (table (label_at (stepped f 0 2 m)) 0 n) (table (label_at (stepped f 1 2 m)) 0 n)
    ≡ table (label_at (woven (stepped f 0 1 (2 * m)))) 0 (2 * n)
unfolding weave
labels_woven f n m long =
    rw (length-table (label_at (stepped f 0 2 m)) 0 n)
    (table_ext (λ j. get_or (cond (eqb (j % 2) 0) re im) (j / 2) 0) ws 0 (2 * n) (λ i x y. go i (omega arith) (below_or (i % 2) 1)))
  where
    re : List ℕ
    re = table (label_at (stepped f 0 2 m)) 0 n

    im : List ℕ
    im = table (label_at (stepped f 1 2 m)) 0 n

    ws : ℕ → ℕ
    ws = label_at (woven (stepped f 0 1 (2 * m)))

    go : (i : ℕ) → i / 2 < n → (i % 2 < 1) ⊎ (1 ≤ i % 2) → get_or (cond (eqb (i % 2) 0) re im) (i / 2) 0 ≡ ws i
    go i l (inl p) =
        let e : i ≡ 2 * (i / 2) = omega arith in
        rw (eq-eqb (i % 2) 0 (omega arith))
        (get_or-table 0 (label_at (stepped f 0 2 m)) n (i / 2) l ∙ sym (number_even f n (2 * m) long (i / 2) l 0 m (omega arith)) ∙ ap ws (sym e))
    go i l (inr p) =
        let e : i ≡ 2 * (i / 2) + 1 = omega arith in
        rw (ne_eqb (i % 2) 0 (omega arith))
        (get_or-table 0 (label_at (stepped f 1 2 m)) n (i / 2) l ∙ sym (number_odd f n (2 * m) long (i / 2) l 0 m (omega arith)) ∙ ap ws (sym e))
