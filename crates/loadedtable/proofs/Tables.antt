-- Laws of the test of a table: a rate's first row, its numbers and their sum, and the test in steps. Assumes nothing.
use Prim.Native.Nat.{ℕ, ◌+◌, ◌-◌, ◌*◌, ◌≤◌, ◌<◌}
use mathlib.Core.Path.{◌≡◌, refl, sym, ap, ◌∙◌}
use mathlib.Core.Bool.{Bool, true, false}
use mathlib.Core.List.{List, [], ◌∷◌}
use native.Mathlib.Omega.{arith}
use borrow.Author.Tests.{eq-eqb, ne_eqb}
use lib.Dec.{eqb, ltb}
use lib.ListN.{length, get_or, take, drop, length-take, length-drop}
use Rattle.std.specs.List.{sum_by}
use Rattle.std.proofs.lemmas.List.{get_or-take, get_or-drop}
use Rattle.std.proofs.lemmas.List.Sums.{sum_by-cons}
use Rattle.lists.proofs.Tables.{table_ext, table_from, take-table}
use Rattle.lists.specs.Lists.{table, total}
use Rattle.lists.specs.Bools.{every}
use Rattle.patterns.specs.Patterns.{RX, begins, entry}
use Rattle.patterns.specs.Loaded.{table_size, numbers_of, rate_passes, passes}
use Rattle.patterns.proofs.Loaded.{within}

-- row B0 of a rate is all ones exactly if each number of the code's slice is
pub first_row : (kept : List ℕ) (rate at width : ℕ) → length kept ≡ table_size → rate < 13 → at ≡ begins rate → width ≡ RX rate
    → every (table (λ k. eqb (get_or (take (at + width - at) (drop at kept)) k 0) 1) 0 (length (take (at + width - at) (drop at kept))))
    ≡ every (table (λ i. eqb (entry kept rate 0 i) 1) 0 (RX rate))
unfolding entry
first_row kept rate at width l h ea ew =
    rw long (ap every (table_ext (λ k. eqb (get_or row k 0) 1) (λ i. eqb (get_or kept (begins rate + 0 * RX rate + i) 0) 1) 0 (RX rate) same))
  where
    row : List ℕ
    row = take (at + width - at) (drop at kept)

    long : length row ≡ RX rate
    long = simp (length-take, length-drop) (omega (arith, within rate h))

    same : (i : ℕ) → 0 ≤ i → i < 0 + RX rate → eqb (get_or row i 0) 1 ≡ eqb (get_or kept (begins rate + 0 * RX rate + i) 0) 1
    same i _ q =
        let k : at + i ≡ begins rate + 0 * RX rate + i = omega arith in
        ap (λ n. eqb n 1) (get_or-take (at + width - at) (drop at kept) i 0 (omega arith) ∙ get_or-drop at kept i 0 ∙ ap (λ k. get_or kept k 0) k)

-- the numbers of a rate are the code's slice
pub numbers-sliced : (kept : List ℕ) (rate at width : ℕ) → length kept ≡ table_size → rate < 13 → at ≡ begins rate → width ≡ RX rate
    → take (at + 4 * width - at) (drop at kept) ≡ numbers_of kept rate
unfolding numbers_of
numbers-sliced kept rate at width l h ea ew =
    let n : at + 4 * width - at ≡ 4 * RX rate = omega arith in
    rw (n, ea)
    (sym (take-table 0 (drop (begins rate) kept) (4 * RX rate) (simp length-drop (omega (arith, within rate h))))
    ∙ table_ext (λ i. get_or (drop (begins rate) kept) i 0) (λ i. get_or kept (begins rate + i) 0) 0 (4 * RX rate) (λ i _ _. get_or-drop (begins rate) kept i 0)
    ∙ sym (table_from (λ k. get_or kept k 0) (begins rate) (4 * RX rate)))

-- the code's sum is the definition's
pub sum-total : (f : ℕ → ℕ) (xs : List ℕ) → ((n : ℕ) → f n ≡ n) → sum_by f xs ≡ total xs
unfolding total
sum-total f [] e = refl
sum-total f (x ∷ xs) e = rw (sum_by-cons f x xs, e x, sum-total f xs e)

-- the test in three steps, as the code takes them
abbrev bits_only : List ℕ → ℕ → Bool
bits_only kept n = every (table (λ k. ltb (get_or kept k 0) 2) 0 n)

pub passes_long : (kept : List ℕ) → (length kept ≡ table_size → ⊥) → false ≡ passes kept
unfolding passes
passes_long kept h = rw (ne_eqb (length kept) table_size h)

pub passes-bits : (kept : List ℕ) (b : Bool) → length kept ≡ table_size → b ≡ bits_only kept (length kept) → b ≡ false → false ≡ passes kept
unfolding passes
passes-bits kept b l e f =
    let g : bits_only kept table_size ≡ false = sym (rw l at e) ∙ f in
    rw (eq-eqb (length kept) table_size l, g)

pub passes-rates : (kept : List ℕ) (b r : Bool) → length kept ≡ table_size → b ≡ bits_only kept (length kept) → b ≡ true → r ≡ every (table (rate_passes kept) 0 13)
    → r ≡ passes kept
unfolding passes
passes-rates kept b r l e t h =
    let g : bits_only kept table_size ≡ true = sym (rw l at e) ∙ t in
    rw (eq-eqb (length kept) table_size l, g) h
