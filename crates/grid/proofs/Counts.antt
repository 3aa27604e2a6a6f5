-- From the test over the pairings to the places of a frame and of a super frame. Assumes nothing.
use Prim.Native.Nat.{ℕ, zero, suc, ◌+◌, ◌-◌, ◌*◌, ◌/◌, ◌%◌, ◌≤◌, ◌<◌}
use mathlib.Core.Path.{◌≡◌, refl, sym, ap, ap₂, ◌∙◌}
use mathlib.Core.Bool.{Bool, true, false, cond, not, ◌||◌}
use mathlib.Core.Logic.{◌⊎◌, inl, inr}
use mathlib.Core.List.{List}
use native.Mathlib.Nat.{zero-add, add-zero, suc-add, add_comm, suc-mul, mul_assoc, mul-le-mul_right, eq-or-lt_of_le, le_of_suc-le-suc, zero-mul}
use native.Mathlib.Omega.{arith}
use lib.Arith.{digits_div, digits_mod}
use lib.Dec.{eqb, leb, leb→le}
use lib.ListN.{take, drop}
use lib.Seq.{take_at, drop_at}
use borrow.Author.Tests.{eq-eqb, ne_eqb, eqb-true, lt-ltb, le-ltb}
use Rattle.lists.specs.Lists.{table, total}
use Rattle.lists.proofs.Bools.{and_left, and_right}
use Rattle.lists.proofs.Tables.{length-table, table_ext, table-add, table_from}
use Rattle.partlengths.specs.Cells.{entry, sdc_table, super_table, fac_cells}
use Rattle.settings.specs.Refusal.{first, paired}
use Rattle.kinds.specs.Carriers.{table80, frame_symbols, symbols, lower, carriers, unused}
use Rattle.kinds.specs.References.{frequency, time, is_gain}
use Rattle.kinds.specs.Control.{fac_carriers, sdc_symbols, is_sdc}
use Rattle.kinds.specs.Kinds.{fac, sdc, msc, has, data_kind, kind_of}
use Rattle.kinds.specs.Places.{frame_places, places, symbol_kind, place_kind, grid_kinds}
use Rattle.placing.specs.Cells.{count}
use Rattle.grid.specs.Counts.{symbol_count, symbols_count, right_pairing, every_below, right_grid}
use Rattle.kinds.specs.Clauses.{Pairing}
use Rattle.kinds.proofs.Bands.{mode_at}
use Rattle.placing.proofs.Places.{one, count-append}
use Rattle.grid.proofs.Pairings.{right_grid_lem}

-- A test of all numbers below n holds of each.
every_at : (n : ℕ) (test : ℕ → Bool) → every_below n test ≡ true → (k : ℕ) → k < n → test k ≡ true
unfolding every_below
every_at zero test t k h = absurd (omega arith)
every_at (suc n) test t k h = go (eq-or-lt_of_le (le_of_suc-le-suc h)) (every_at n test (and_left (every_below n test) (test n) t) k)
  where
    go : (k ≡ n) ⊎ (k < n) → (k < n → test k ≡ true) → test k ≡ true
    go (inl e) ih = rw e (and_right (every_below n test) (test n) t)
    go (inr e) ih = ih e

either : (a b : Bool) → (not a || b) ≡ true → a ≡ true → b ≡ true
either true b t e = t
either false b t e = absurd (let z : ◌≡◌ {A = ℕ} 0 1 = cc in omega arith)

right_at : (m o : ℕ) → Pairing m o → paired m o ≡ true → right_pairing m o ≡ true
unfolding right_grid
right_at m o p e =
    either (paired m o) (right_pairing m o)
    (every_at 6 (λ occupancy. not (paired m occupancy) || right_pairing m occupancy)
    (every_at 4 (λ mode. every_below 6 (λ occupancy. not (paired mode occupancy) || right_pairing mode occupancy)) right_grid_lem m p.mode_low) o p.occupancy_low) e

-- What the test says.
record Right (m o : ℕ) : Type 0 where
  facs : symbols_count m o fac 0 (frame_symbols m) ≡ fac_cells
  sdcs : symbols_count m o msc 0 (sdc_symbols m) ≡ entry sdc_table m o
  mscs : 2 * entry sdc_table m o + 3 * symbols_count m o msc (sdc_symbols m) (frame_symbols m - sdc_symbols m) ≡ entry super_table m o

right : (m o : ℕ) → Pairing m o → paired m o ≡ true → Right m o
unfolding right_pairing
right m o p e =
    let t : right_pairing m o ≡ true = right_at m o p e in
    let u = and_right (eqb (symbols_count m o fac 0 (frame_symbols m)) fac_cells) _ t in
    record {
      facs = eqb-true _ _ (and_left (eqb (symbols_count m o fac 0 (frame_symbols m)) fac_cells) _ t);
      sdcs = eqb-true _ _ (and_left (eqb (symbols_count m o msc 0 (sdc_symbols m)) (entry sdc_table m o)) _ u);
      mscs = eqb-true _ _ (and_right (eqb (symbols_count m o msc 0 (sdc_symbols m)) (entry sdc_table m o)) _ u);
    }

-- Two rows with as many places, place by place.
count_same : (f g : ℕ → ℕ) (kind kind' a n : ℕ) → ((k : ℕ) → one (f k) kind ≡ one (g k) kind') → count kind (table f a n) ≡ count kind' (table g a n)
unfolding count table
count_same f g kind kind' a zero h = refl
count_same f g kind kind' a (suc n) h = ap₂ ◌+◌ (h a) (count_same f g kind kind' (suc a) n h)

count-zero : (f : ℕ → ℕ) (kind a n : ℕ) → ((k : ℕ) → one (f k) kind ≡ 0) → count kind (table f a n) ≡ 0
unfolding count table
count-zero f kind a zero h = refl
count-zero f kind a (suc n) h = omega (arith, h a, count-zero f kind (suc a) n h)

-- Kinds by the first test that holds, with a kind x of data.
abbrev chain : Bool → Bool → Bool → Bool → Bool → ℕ → ℕ
chain a b c d e x = first a 0 (first b 1 (first c 2 (first d 3 (first e 4 x))))

not-one : (k kind : ℕ) → (k ≡ kind → ⊥) → one k kind ≡ 0
not-one k kind h = rw (ne_eqb k kind h)

is_one : (k : ℕ) → one k k ≡ 1
is_one k = rw (eq-eqb k k refl)

-- Another kind of data changes nothing for FAC places, and nothing for data.
one-fac : (a b c d e : Bool) (x y : ℕ) → 5 ≤ x → 5 ≤ y → one (chain a b c d e x) 4 ≡ one (chain a b c d e y) 4
unfolding first
one-fac true b c d e x y h k = refl
one-fac false true c d e x y h k = refl
one-fac false false true d e x y h k = refl
one-fac false false false true e x y h k = refl
one-fac false false false false true x y h k = refl
one-fac false false false false false x y h k = not-one x 4 (λ e. omega arith) ∙ sym (not-one y 4 (λ e. omega arith))

one_data : (a b c d e : Bool) (x y : ℕ) → 5 ≤ x → 5 ≤ y → one (chain a b c d e x) x ≡ one (chain a b c d e y) y
unfolding first
one_data true b c d e x y h k = not-one 0 x (λ e. omega arith) ∙ sym (not-one 0 y (λ e. omega arith))
one_data false true c d e x y h k = not-one 1 x (λ e. omega arith) ∙ sym (not-one 1 y (λ e. omega arith))
one_data false false true d e x y h k = not-one 2 x (λ e. omega arith) ∙ sym (not-one 2 y (λ e. omega arith))
one_data false false false true e x y h k = not-one 3 x (λ e. omega arith) ∙ sym (not-one 3 y (λ e. omega arith))
one_data false false false false true x y h k = not-one 4 x (λ e. omega arith) ∙ sym (not-one 4 y (λ e. omega arith))
one_data false false false false false x y h k = is_one x ∙ sym (is_one y)

one-other : (a b c d e : Bool) (x y : ℕ) → 5 ≤ y → (x ≡ y → ⊥) → one (chain a b c d e x) y ≡ 0
unfolding first
one-other true b c d e x y h n = not-one 0 y (λ e. omega arith)
one-other false true c d e x y h n = not-one 1 y (λ e. omega arith)
one-other false false true d e x y h n = not-one 2 y (λ e. omega arith)
one-other false false false true e x y h n = not-one 3 y (λ e. omega arith)
one-other false false false false true x y h n = not-one 4 y (λ e. omega arith)
one-other false false false false false x y h n = not-one x y n

-- Data are SDC in the SDC symbols of the first frame, otherwise MSC.
data_sdc : (m s : ℕ) → s < sdc_symbols m → data_kind m 0 s ≡ 5
unfolding data_kind is_sdc first sdc
data_sdc m s h = rw (lt-ltb s (sdc_symbols m) h)

data_msc : (m s : ℕ) → sdc_symbols m ≤ s → data_kind m 0 s ≡ 6
unfolding data_kind is_sdc first msc
data_msc m s h = rw (le-ltb s (sdc_symbols m) h)

data_later : (m f s : ℕ) → 1 ≤ f → data_kind m f s ≡ 6
unfolding data_kind is_sdc first msc
data_later m f s h = rw (ne_eqb f 0 (λ e. omega arith))

data_some : (m f s : ℕ) → 5 ≤ data_kind m f s
unfolding data_kind first sdc msc
data_some m f s = go (is_sdc m f s)
  where
    go : (b : Bool) → 5 ≤ cond b 5 6
    go true = omega arith
    go false = omega arith

-- Sums of a table: of two parts, and of equal numbers.
sum-add : (g : ℕ → ℕ) (a m n : ℕ) → total (table g a (m + n)) ≡ total (table g a m) + total (table g (a + m) n)
unfolding total table
sum-add g a zero n = rw (zero-add, add-zero) (sym (zero-add _))
sum-add g a (suc m) n =
    let e : suc a + m ≡ a + suc m = omega arith in
    rw (suc-add) (omega (arith, rw e at (sum-add g (suc a) m n)))

sum_same : (g h : ℕ → ℕ) (a n : ℕ) → ((i : ℕ) → a ≤ i → i < a + n → g i ≡ h i) → total (table g a n) ≡ total (table h a n)
sum_same g h a n e = ap total (table_ext g h a n e)

sum-zero : (g : ℕ → ℕ) (a n : ℕ) → ((i : ℕ) → a ≤ i → i < a + n → g i ≡ 0) → total (table g a n) ≡ 0
unfolding total table
sum-zero g a zero e = refl
sum-zero g a (suc n) e = omega (arith, e a (omega arith) (omega arith), sum-zero g (suc a) n (λ i b c. e i (omega arith) (omega arith)))

module _ (m o : ℕ) where
  -- The kinds of a symbol's places.
  abbrev row : ℕ → ℕ → List ℕ
  row f s = table (kind_of m f s) (lower m o) (carriers m o)

  row-fac : (f s : ℕ) → count 4 (row f s) ≡ symbol_count m o fac s
  unfolding symbol_count kind_of fac
  row-fac f s =
      count_same _ _ 4 4 (lower m o) (carriers m o)
      (λ k. one-fac (has (unused m) k) (has (frequency m) k) (has (time m s) k) (is_gain m s k) (has (fac_carriers m s) k) (data_kind m f s) (data_kind m 1 s) (data_some m f s) (data_some m 1 s))

  row_data : (f s : ℕ) → count (data_kind m f s) (row f s) ≡ symbol_count m o msc s
  unfolding symbol_count kind_of fac msc
  row_data f s =
      count_same _ _ (data_kind m f s) (data_kind m 1 s) (lower m o) (carriers m o)
      (λ k. one_data (has (unused m) k) (has (frequency m) k) (has (time m s) k) (is_gain m s k) (has (fac_carriers m s) k) (data_kind m f s) (data_kind m 1 s) (data_some m f s) (data_some m 1 s))
      ∙ ap (λ kind. count kind (row 1 s)) (data_later m 1 s (omega arith))

  row_other : (f s kind : ℕ) → 5 ≤ kind → (data_kind m f s ≡ kind → ⊥) → count kind (row f s) ≡ 0
  unfolding kind_of fac
  row_other f s kind h n =
      count-zero _ kind (lower m o) (carriers m o)
      (λ k. one-other (has (unused m) k) (has (frequency m) k) (has (time m s) k) (is_gain m s k) (has (fac_carriers m s) k) (data_kind m f s) kind h n)

  module _ (p : Pairing m o) where
    -- A row of the super frame's places.
    row_at : (n : ℕ) → table (place_kind m o) (n * carriers m o) (carriers m o) ≡ row (n / frame_symbols m) (n % frame_symbols m)
    unfolding place_kind symbol_kind
    row_at n =
        table_from (place_kind m o) (n * carriers m o) (carriers m o)
        ∙ (table_ext _ (λ i. kind_of m (n / frame_symbols m) (n % frame_symbols m) (lower m o + i)) 0 (carriers m o)
        (λ i a b. let low : i < carriers m o = omega arith in rw (digits_div n low, digits_mod n low))
        ∙ sym (table_from (kind_of m (n / frame_symbols m) (n % frame_symbols m)) (lower m o) (carriers m o)))

    -- Places counted row by row.
    abbrev row_count : ℕ → ℕ → ℕ
    row_count kind n = count kind (row (n / frame_symbols m) (n % frame_symbols m))

    rows-count : (kind a n : ℕ) → count kind (table (place_kind m o) (a * carriers m o) (n * carriers m o)) ≡ total (table (row_count kind) a n)
    unfolding total table count
    rows-count kind a zero = rw zero-mul
    rows-count kind a (suc n) =
        let more : suc n * carriers m o ≡ carriers m o + n * carriers m o = suc-mul n (carriers m o) ∙ add_comm _ _ in
        let next : a * carriers m o + carriers m o ≡ suc a * carriers m o = sym (suc-mul a (carriers m o)) in
        rw (more, table-add (place_kind m o) (a * carriers m o) (carriers m o) (n * carriers m o), count-append kind (table (place_kind m o) (a * carriers m o) (carriers m o)) (table (place_kind m o) (a * carriers m o + carriers m o) (n * carriers m o)), next)
        (ap₂ ◌+◌ (ap (count kind) (row_at a)) (rows-count kind (suc a) n))

    -- Places of transmission frame f.
    frame_count : (kind f : ℕ) → count kind (table (place_kind m o) (f * frame_places m o) (frame_places m o)) ≡ total (table (λ s. count kind (row f s)) 0 (frame_symbols m))
    unfolding frame_places
    frame_count kind f =
        rw (← mul_assoc f (frame_symbols m) (carriers m o)) (rows-count kind (f * frame_symbols m) (frame_symbols m))
        ∙ (ap total (table_from (row_count kind) (f * frame_symbols m) (frame_symbols m))
        ∙ sum_same _ (λ s. count kind (row f s)) 0 (frame_symbols m)
        (λ s a b. let low : s < frame_symbols m = omega arith in rw (digits_div f low, digits_mod f low)))

    -- The SDC symbols are symbols of the frame.
    few_sdc : sdc_symbols m ≤ frame_symbols m
    unfolding sdc_symbols frame_symbols table80
    few_sdc = leb→le _ _ (mode_at (λ k. leb (sdc_symbols k) (frame_symbols k)) tt m p.mode_low)

    -- FAC places of each frame.
    fac_frame : (f : ℕ) → count 4 (table (place_kind m o) (f * frame_places m o) (frame_places m o)) ≡ symbols_count m o fac 0 (frame_symbols m)
    unfolding symbols_count
    fac_frame f = frame_count 4 f ∙ sum_same _ (symbol_count m o fac) 0 (frame_symbols m) (λ s a b. row-fac f s)

    row_of : (f s kind : ℕ) → data_kind m f s ≡ kind → count kind (row f s) ≡ symbol_count m o msc s
    row_of f s kind e = rw e at (row_data f s)

    -- Rows in the SDC symbols and the others.
    split : (kind f : ℕ) → count kind (table (place_kind m o) (f * frame_places m o) (frame_places m o))
        ≡ total (table (λ s. count kind (row f s)) 0 (sdc_symbols m)) + total (table (λ s. count kind (row f s)) (sdc_symbols m) (frame_symbols m - sdc_symbols m))
    split kind f =
        let all : sdc_symbols m + (frame_symbols m - sdc_symbols m) ≡ frame_symbols m = omega (arith, few_sdc) in
        let parts : total (table (λ s. count kind (row f s)) 0 (sdc_symbols m + (frame_symbols m - sdc_symbols m))) ≡ total (table (λ s. count kind (row f s)) 0 (sdc_symbols m)) + total (table (λ s. count kind (row f s)) (0 + sdc_symbols m) (frame_symbols m - sdc_symbols m)) =
        sum-add (λ s. count kind (row f s)) 0 (sdc_symbols m) (frame_symbols m - sdc_symbols m)
        in
        frame_count kind f ∙ rw (all, zero-add) at parts

    -- SDC and MSC places of the first frame.
    sdc-first : count 5 (table (place_kind m o) (0 * frame_places m o) (frame_places m o)) ≡ symbols_count m o msc 0 (sdc_symbols m)
    unfolding symbols_count
    sdc-first =
        split 5 0
        ∙ (ap₂ ◌+◌ (sum_same _ (symbol_count m o msc) 0 (sdc_symbols m) (λ s a b. row_of 0 s 5 (data_sdc m s (omega arith))))
        (sum-zero _ (sdc_symbols m) _ (λ s a b. row_other 0 s 5 (omega arith) (λ e. omega (arith, data_msc m s a))))
        ∙ add-zero _)

    msc-first : count 6 (table (place_kind m o) (0 * frame_places m o) (frame_places m o)) ≡ symbols_count m o msc (sdc_symbols m) (frame_symbols m - sdc_symbols m)
    unfolding symbols_count
    msc-first =
        split 6 0
        ∙ (ap₂ ◌+◌ (sum-zero _ 0 (sdc_symbols m) (λ s a b. let low : s < sdc_symbols m = omega arith in row_other 0 s 6 (omega arith) (λ e. omega (arith, data_sdc m s low))))
        (sum_same _ (symbol_count m o msc) (sdc_symbols m) _ (λ s a b. row_of 0 s 6 (data_msc m s a)))
        ∙ zero-add _)

    -- and of a later one.
    sdc_later : (f : ℕ) → 1 ≤ f → count 5 (table (place_kind m o) (f * frame_places m o) (frame_places m o)) ≡ 0
    sdc_later f h = frame_count 5 f ∙ sum-zero _ 0 (frame_symbols m) (λ s a b. row_other f s 5 (omega arith) (λ e. omega (arith, data_later m f s h)))

    msc_later : (f : ℕ) → 1 ≤ f → count 6 (table (place_kind m o) (f * frame_places m o) (frame_places m o))
        ≡ symbols_count m o msc 0 (sdc_symbols m) + symbols_count m o msc (sdc_symbols m) (frame_symbols m - sdc_symbols m)
    unfolding symbols_count
    msc_later f h =
        split 6 f
        ∙ ap₂ ◌+◌ (sum_same _ (symbol_count m o msc) 0 (sdc_symbols m) (λ s a b. row_of f s 6 (data_later m f s h)))
        (sum_same _ (symbol_count m o msc) (sdc_symbols m) _ (λ s a b. row_of f s 6 (data_later m f s h)))

    -- A super frame is three frames.
    three_frames_lem : (kind : ℕ) → count kind (grid_kinds m o)
        ≡ count kind (table (place_kind m o) (0 * frame_places m o) (frame_places m o))
        + (count kind (table (place_kind m o) (1 * frame_places m o) (frame_places m o)) + count kind (table (place_kind m o) (2 * frame_places m o) (frame_places m o)))
    unfolding grid_kinds places symbols frame_places
    three_frames_lem kind =
        let whole : 3 * frame_symbols m * carriers m o ≡ frame_symbols m * carriers m o + (frame_symbols m * carriers m o + frame_symbols m * carriers m o) = rw mul_assoc (omega arith) in
        let none : 0 * (frame_symbols m * carriers m o) ≡ 0 = omega arith in
        let one_frame : 1 * (frame_symbols m * carriers m o) ≡ 0 + frame_symbols m * carriers m o = omega arith in
        let two : 2 * (frame_symbols m * carriers m o) ≡ 0 + frame_symbols m * carriers m o + frame_symbols m * carriers m o = omega arith in
        rw (whole, none, one_frame, two, table-add (place_kind m o) 0 (frame_symbols m * carriers m o) (frame_symbols m * carriers m o + frame_symbols m * carriers m o), count-append kind (table (place_kind m o) 0 (frame_symbols m * carriers m o)) _, table-add (place_kind m o) (0 + frame_symbols m * carriers m o) (frame_symbols m * carriers m o) (frame_symbols m * carriers m o), count-append kind (table (place_kind m o) (0 + frame_symbols m * carriers m o) (frame_symbols m * carriers m o)) _)

-- Theorem 1: what the test gives.
pub record Totals (m o : ℕ) : Type 0 where
  pub facs : count 4 (grid_kinds m o) ≡ 195
  pub sdcs : count 5 (grid_kinds m o) ≡ entry sdc_table m o
  pub mscs : count 6 (grid_kinds m o) ≡ entry super_table m o

pub totals : (m o : ℕ) → Pairing m o → paired m o ≡ true → Totals m o
unfolding fac_cells
totals m o p e =
    let r : Right m o = right m o p e in
    record {
      facs = omega (arith, three_frames_lem m o p 4, fac_frame m o p 0, fac_frame m o p 1, fac_frame m o p 2, r.facs);
      sdcs = omega (arith, three_frames_lem m o p 5, sdc-first m o p, sdc_later m o p 1 (omega arith), sdc_later m o p 2 (omega arith), r.sdcs);
      mscs = omega (arith, three_frames_lem m o p 6, msc-first m o p, msc_later m o p 1 (omega arith), msc_later m o p 2 (omega arith), r.sdcs, r.mscs);
    }

three_places : (m o : ℕ) → places m o ≡ 3 * frame_places m o
unfolding places symbols frame_places
three_places m o = mul_assoc 3 (frame_symbols m) (carriers m o)

-- A part of a table.
part-table : {A : Type 0} (g : ℕ → A) (a n r : ℕ) → take n (drop a (table g 0 (a + (n + r)))) ≡ table g a n
part-table g a n r =
    rw (table-add g 0 a (n + r), drop_at (table g 0 a) (table g (0 + a) (n + r)) a (length-table g 0 a), zero-add a, table-add g a n r) (take_at (table g a n) _ n (length-table g a n))

pub frame_facs : (m o : ℕ) → Pairing m o → paired m o ≡ true → (f : ℕ) → f < 3
    → count 4 (take (frame_places m o) (drop (f * frame_places m o) (grid_kinds m o))) ≡ fac_cells
unfolding grid_kinds
frame_facs m o p e f h =
    let most : f * frame_places m o ≤ 2 * frame_places m o = mul-le-mul_right (frame_places m o) (omega arith) in
    let whole : places m o ≡ f * frame_places m o + (frame_places m o + (places m o - (f * frame_places m o + frame_places m o))) = omega (arith, three_places m o) in
    ap (λ (n : ℕ). count 4 (take (frame_places m o) (drop (f * frame_places m o) (table (place_kind m o) 0 n)))) whole
    ∙ (ap (count 4) (part-table (place_kind m o) (f * frame_places m o) (frame_places m o) _) ∙ (fac_frame m o p f ∙ (right m o p e).facs))
