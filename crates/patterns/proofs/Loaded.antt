-- Laws of tables that pass: their numbers, and the patterns that they hold. Assumes nothing.
use Prim.Native.Nat.{ℕ, zero, suc, ◌+◌, ◌-◌, ◌*◌, ◌/◌, ◌%◌, ◌≤◌, ◌<◌}
use mathlib.Core.Path.{◌≡◌, refl, sym, ap, ◌∙◌}
use mathlib.Core.Bool.{Bool, true, false}
use mathlib.Core.List.{List, [], ◌∷◌, ◌++◌}
use native.Mathlib.Nat.{zero-add}
use native.Mathlib.Decide.{dec_lt}
use native.Mathlib.Omega.{arith}
use borrow.Author.Tests.{eqb-true, ltb-true, ltb-false}
use lib.Dec.{eqb, ltb}
use lib.ListN.{length, get_or, replicate, length-append, length-replicate, get_or-replicate, get_or-append, get_or-eq_default}
use lib.Seq.{ext_get_or, get_or-append-add}
use lib.Count.{ones, ones_in, ones_step}
use Rattle.lists.specs.Lists.{table, total}
use Rattle.lists.specs.Bools.{every}
use Rattle.lists.proofs.Bools.{and_left, and_right, table-every}
use Rattle.lists.proofs.Rules.{less}
use Rattle.lists.proofs.Tables.{length-table, get_or-table, table_ext, table-add, table_from, Filled}
use Rattle.patterns.specs.Patterns.{RX, RY, numerators, begins, entry, column, pattern, Sound}
use Rattle.patterns.specs.Loaded.{table_size, numbers_of, rate_passes, passes, Allowed}
use Rattle.patterns.specs.Clauses.{column_from, padded, pattern_from}
use Rattle.patterns.specs.declared.Pattern.{Pattern}

-- a rate has one to eight columns, and its four rows stand within the table
pub width_low : (rate : ℕ) → rate < 13 → (0 < RX rate) × (RX rate < 9)
unfolding RX numerators
width_low rate h = (less (λ k. 0) RX 13 tt rate h, less RX (λ k. 9) 13 tt rate h)

pub width_high : (rate : ℕ) → RX rate ≤ 8
unfolding RX numerators
width_high rate =
    elim (dec_lt rate 13) [ yes h ↦ omega (arith, width_low rate h) | no h ↦ past h ]
  where
    past : (rate < 13 → ⊥) → RX rate ≤ 8
    past h = rw (get_or-eq_default numerators 1 {n = rate} (omega arith)) (omega arith)

pub within : (rate : ℕ) → rate < 13 → begins rate + 4 * RX rate ≤ table_size
unfolding begins RX numerators
within rate h = let l : begins rate + 4 * RX rate < 197 = less (λ k. begins k + 4 * RX k) (λ k. 197) 13 tt rate h in omega arith

-- a table that passes has 196 numbers
pub long : {kept : List ℕ} → Allowed kept → length kept ≡ table_size
unfolding passes
long {kept} A = eqb-true (length kept) table_size (and_left (eqb (length kept) table_size) _ A.passed)

-- each of them is a bit
pub low : {kept : List ℕ} → Allowed kept → (k : ℕ) → k < table_size → get_or kept k 0 < 2
unfolding passes
low {kept} A k h =
    let bits = every (table (λ k. ltb (get_or kept k 0) 2) 0 table_size) in
    ltb-true (get_or kept k 0) 2
    (table-every (λ k. ltb (get_or kept k 0) 2) table_size
    (and_left bits _ (and_right (eqb (length kept) table_size) _ A.passed)) k h)

-- each rate passes
rate_passes_lem : {kept : List ℕ} → Allowed kept → (rate : ℕ) → rate < 13 → rate_passes kept rate ≡ true
unfolding passes
rate_passes_lem {kept} A rate h =
    let bits = every (table (λ k. ltb (get_or kept k 0) 2) 0 table_size) in
    table-every (rate_passes kept) 13 (and_right bits _ (and_right (eqb (length kept) table_size) _ A.passed)) rate h

-- its B0 is all ones
first-row : {kept : List ℕ} → Allowed kept → (rate i : ℕ) → rate < 13 → i < RX rate → entry kept rate 0 i ≡ 1
unfolding rate_passes
first-row {kept} A rate i h l =
    eqb-true (entry kept rate 0 i) 1
    (table-every (λ i. eqb (entry kept rate 0 i) 1) (RX rate) (and_left _ _ (rate_passes_lem A rate h)) i l)

-- and its ones number its denominator
ones-number : {kept : List ℕ} → Allowed kept → (rate : ℕ) → rate < 13 → total (numbers_of kept rate) ≡ RY rate
unfolding rate_passes
ones-number {kept} A rate h =
    eqb-true (total (numbers_of kept rate)) (RY rate)
    (and_right (every (table (λ i. eqb (entry kept rate 0 i) 1) 0 (RX rate))) _ (rate_passes_lem A rate h))

-- an entry of a rate is a bit
entry_low : {kept : List ℕ} → Allowed kept → (rate j i : ℕ) → rate < 13 → j < 4 → i < RX rate → entry kept rate j i < 2
unfolding entry
entry_low {kept} A rate j i h hj hi =
    let w : RX rate < 9 = (width_low rate h).1 in
    let m : j * RX rate ≤ 3 * RX rate = native.Mathlib.Nat.mul-le-mul_right (RX rate) (omega arith) in
    low A (begins rate + j * RX rate + i) (omega (arith, within rate h))

-- the ones of a number by its lowest digit
ones-digit : (a m : ℕ) → a < 2 → ones (a + 2 * m) ≡ a + ones m
ones-digit a m h =
    let r : (a + 2 * m) % 2 ≡ a = omega arith in
    let q : (a + 2 * m) / 2 ≡ m = omega arith in
    rw (ones_step (a + 2 * m), r, q)

-- a column keeps as many bits as its number has ones
column-ones : (a b c d : ℕ) → a < 2 → b < 2 → c < 2 → d < 2 → ones (a + 2 * b + 4 * c + 8 * d) ≡ a + b + c + d
unfolding ones ones_in
column-ones a b c d ha hb hc hd =
    let n : a + 2 * b + 4 * c + 8 * d ≡ a + 2 * (b + 2 * (c + 2 * (d + 2 * 0))) = omega arith in
    rw (n, ones-digit a (b + 2 * (c + 2 * (d + 2 * 0))) ha, ones-digit b (c + 2 * (d + 2 * 0)) hb, ones-digit c (d + 2 * 0) hc, ones-digit d 0 hd)
    (omega arith)

-- the pattern of a rate has RX columns
pub pattern-columns : (kept : List ℕ) (rate : ℕ) → length (pattern kept rate) ≡ RX rate
unfolding pattern
pattern-columns kept rate = length-table (column kept rate) 0 (RX rate)

pub pattern-column : (kept : List ℕ) (rate i : ℕ) → i < RX rate → get_or (pattern kept rate) i 0 ≡ column kept rate i
unfolding pattern
pattern-column kept rate i h = get_or-table 0 (column kept rate) (RX rate) i h

column_odd : (kept : List ℕ) (rate i : ℕ) → entry kept rate 0 i ≡ 1 → column kept rate i % 2 ≡ 1
unfolding column
column_odd kept rate i e = omega arith

column_low : (kept : List ℕ) (rate i : ℕ) → entry kept rate 0 i < 2 → entry kept rate 1 i < 2 → entry kept rate 2 i < 2 → entry kept rate 3 i < 2
    → column kept rate i < 16
unfolding column
column_low kept rate i a b c d = omega arith

-- and is sound
pub pattern_sound : {kept : List ℕ} → Allowed kept → (rate : ℕ) → rate < 13 → Sound (pattern kept rate)
pattern_sound {kept} A rate h =
    record {
      some = rw (pattern-columns kept rate) (width_low rate h).0;
      first = λ i l. let q : i < RX rate = rw (← pattern-columns kept rate) l in rw (pattern-column kept rate i q) (odd i q);
      four = λ i l. let q : i < RX rate = rw (← pattern-columns kept rate) l in rw (pattern-column kept rate i q) (under i q);
    }
  where
    e : (j i : ℕ) → j < 4 → i < RX rate → entry kept rate j i < 2
    e j i = entry_low A rate j i h

    odd : (i : ℕ) → i < RX rate → column kept rate i % 2 ≡ 1
    odd i q = column_odd kept rate i (first-row A rate i h q)

    under : (i : ℕ) → i < RX rate → column kept rate i < 16
    under i q = column_low kept rate i (e 0 i (omega arith) q) (e 1 i (omega arith) q) (e 2 i (omega arith) q) (e 3 i (omega arith) q)

-- sums over a range: of two functions, and of a range in two parts
total_plus : (f g : ℕ → ℕ) (k n : ℕ) → total (table (λ i. f i + g i) k n) ≡ total (table f k n) + total (table g k n)
unfolding total table
total_plus f g k zero = refl
total_plus f g k (suc n) = rw (total_plus f g (suc k) n) (omega arith)

total-append : (xs ys : List ℕ) → total (xs ++ ys) ≡ total xs + total ys
unfolding total
total-append [] ys = sym (zero-add (total ys))
total-append (x ∷ xs) ys = rw (total-append xs ys) (omega arith)

total-parts : (f : ℕ → ℕ) (k m n : ℕ) → total (table f k (m + n)) ≡ total (table f k m) + total (table f (k + m) n)
total-parts f k m n = rw (table-add f k m n) (total-append (table f k m) (table f (k + m) n))

-- the numbers of a rate by rows
row : List ℕ → ℕ → ℕ → ℕ
row kept rate j = total (table (entry kept rate j) 0 (RX rate))

row_at : (kept : List ℕ) (rate j at : ℕ) → at ≡ begins rate + j * RX rate → total (table (λ k. get_or kept k 0) at (RX rate)) ≡ row kept rate j
unfolding row entry
row_at kept rate j at e = rw e (ap total (table_from (λ k. get_or kept k 0) (begins rate + j * RX rate) (RX rate)))

rows-total : (kept : List ℕ) (rate : ℕ) → total (numbers_of kept rate) ≡ row kept rate 0 + row kept rate 1 + row kept rate 2 + row kept rate 3
unfolding numbers_of
rows-total kept rate =
    let f : ℕ → ℕ = λ k. get_or kept k 0 in
    let w : ℕ = RX rate in
    let b : ℕ = begins rate in
    let four : 4 * w ≡ w + (w + (w + w)) = omega arith in
    rw (
      four,
      total-parts f b w (w + (w + w)),
      total-parts f (b + w) w (w + w),
      total-parts f (b + w + w) w w,
      row_at kept rate 0 b (omega arith),
      row_at kept rate 1 (b + w) (omega arith),
      row_at kept rate 2 (b + w + w) (omega arith),
      row_at kept rate 3 (b + w + w + w) (omega arith),
    )
    (omega arith)

-- a round of a rate's pattern keeps as many bits as its rows have ones: RY
pub pattern-total : {kept : List ℕ} → Allowed kept → (rate : ℕ) → rate < 13
    → total (table (λ i. ones (get_or (pattern kept rate) i 0)) 0 (RX rate)) ≡ RY rate
unfolding row column
pattern-total {kept} A rate h =
    let e : ℕ → ℕ → ℕ = entry kept rate in
    let w : ℕ = RX rate in
    ap total (table_ext (λ i. ones (get_or (pattern kept rate) i 0)) (λ i. e 0 i + e 1 i + e 2 i + e 3 i) 0 w each)
    ∙ (rw (
      total_plus (λ i. e 0 i + e 1 i + e 2 i) (e 3) 0 w,
      total_plus (λ i. e 0 i + e 1 i) (e 2) 0 w,
      total_plus (e 0) (e 1) 0 w,
    )
    (sym (rows-total kept rate)) ∙ ones-number A rate h)
  where
    e : (j i : ℕ) → j < 4 → i < RX rate → entry kept rate j i < 2
    e j i = entry_low A rate j i h

    each : (i : ℕ) → 0 ≤ i → i < 0 + RX rate → ones (get_or (pattern kept rate) i 0) ≡ entry kept rate 0 i + entry kept rate 1 i + entry kept rate 2 i + entry kept rate 3 i
    each i _ l =
        let q : i < RX rate = omega arith in
        ap ones (pattern-column kept rate i q)
        ∙ column-ones (entry kept rate 0 i) (entry kept rate 1 i) (entry kept rate 2 i) (entry kept rate 3 i) (e 0 i (omega arith) q) (e 1 i (omega arith) q) (e 2 i (omega arith) q) (e 3 i (omega arith) q)

-- a column that the code takes is the definition's
pub column_from_lem : (kept : List ℕ) (rate i at width v : ℕ) → width ≡ RX rate → at ≡ begins rate → v ≡ column_from kept (at + i) width → v ≡ column kept rate i
unfolding column_from column entry
column_from_lem kept rate i at width v ew ea e =
    let zero : begins rate + 0 * RX rate + i ≡ at + i = omega arith in
    let one : begins rate + 1 * RX rate + i ≡ at + i + width = omega arith in
    let two : begins rate + 2 * RX rate + i ≡ at + i + 2 * width = omega arith in
    let three : begins rate + 3 * RX rate + i ≡ at + i + 3 * width = omega arith in
    rw (zero, one, two, three) (e ∙ omega arith)

-- a buffer of eight filled with a pattern's columns holds the pattern
pub filled-pattern : (kept out : List ℕ) (rate i width : ℕ) → Filled 0 (column kept rate) (replicate 8 0) out i → width ≡ RX rate → width ≤ 8 → i ≡ width
    → ◌≡◌ {A = Pattern} (record { columns = out; width = width }) (pattern_from (pattern kept rate))
unfolding pattern_from padded
filled-pattern kept out rate i width F ew small e =
    let p = pattern kept rate in
    let n : length p ≡ RX rate = pattern-columns kept rate in
    λ j. record {
      columns = ext_get_or 0 out (p ++ replicate (8 - length p) 0) (F.long ∙ sym (rw (length-append, length-replicate, n) (omega arith))) each j;
      width = (ew ∙ sym n) j;
    }
  where
    go : (k : ℕ) → k < 8 → (b : Bool) → ltb k (RX rate) ≡ b → get_or out k 0 ≡ get_or (pattern kept rate ++ replicate (8 - length (pattern kept rate)) 0) k 0
    go k h true l =
        let q : k < RX rate = ltb-true k (RX rate) l in
        F.done k (omega arith)
        ∙ sym (get_or-append (pattern kept rate) (replicate (8 - length (pattern kept rate)) 0) 0 k (omega (arith, pattern-columns kept rate)) ∙ pattern-column kept rate k q)
    go k h false l =
        let q : RX rate ≤ k = ltb-false k (RX rate) l in
        let n : length (pattern kept rate) ≡ RX rate = pattern-columns kept rate in
        let past : k ≡ length (pattern kept rate) + (k - RX rate) = omega arith in
        F.rest k (omega arith)
        ∙ (get_or-replicate 8 k 0 0 h
        ∙ sym (rw past (get_or-append-add (pattern kept rate) (replicate (8 - length (pattern kept rate)) 0) (k - RX rate) 0
        ∙ get_or-replicate (8 - length (pattern kept rate)) (k - RX rate) 0 0 (omega arith))))

    each : (k : ℕ) → k < length out → get_or out k 0 ≡ get_or (pattern kept rate ++ replicate (8 - length (pattern kept rate)) 0) k 0
    each k h = go k (omega (arith, F.long)) (ltb k (RX rate)) refl
