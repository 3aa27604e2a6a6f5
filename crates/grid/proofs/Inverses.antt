-- The theorems. Assumes nothing.
use Prim.Native.Nat.{ℕ, zero, suc, ◌+◌, ◌*◌, ◌/◌, ◌%◌, ◌≤◌, ◌<◌}
use mathlib.Core.Path.{◌≡◌, refl, sym, ap, ap₂, ◌∙◌}
use mathlib.Core.Bool.{Bool, true, false, cond}
use mathlib.Core.Logic.{◌⊎◌, inl, inr}
use mathlib.Core.List.{List}
use native.Mathlib.Nat.{add-zero}
use native.Mathlib.Omega.{arith}
use lib.Dec.{eqb, ltb}
use lib.ListN.{length, get_or}
use lib.IntN.{ℤ, pos}
use borrow.Author.Tests.{ne_eqb, eqb-true, lt-ltb, le-ltb}
use Rattle.lists.proofs.Bools.{and_left, and_right}
use Rattle.lists.proofs.Counting.{below_or}
use Rattle.lists.proofs.Tables.{length-table, get_or-table, table_is, table_ext}
use Rattle.partlengths.specs.Cells.{fac_cells}
use Rattle.settings.specs.declared.Settings.{Settings}
use Rattle.settings.specs.Refusal.{first}
use Rattle.settings.specs.Lengths.{n_sdc, n_sfa}
use Rattle.kinds.specs.Carriers.{unused}
use Rattle.kinds.specs.References.{frequency, time, is_gain}
use Rattle.kinds.specs.Control.{fac_carriers, is_sdc}
use Rattle.kinds.specs.Kinds.{fac, sdc, msc, has, data_kind, kind_of}
use Rattle.kinds.specs.Places.{places, symbol_kind, place_kind, grid_kinds}
use Rattle.placing.specs.Cells.{count, before, nth, Cells, of_kind, place_number, placed, taken_of, taken}
use Rattle.grid.specs.Calls.{kinds, grid_numbers, cells_fit, grid_refusal, place_refusal, take_refusal, PlaceYield, place_of, TakeYield, take_of}
use Rattle.grid.specs.Clauses.{CallFits}
use Rattle.placing.specs.Clauses.{AllFit}
use Rattle.grid.specs.Theorems.{PlacesCounted, SameCells, TakenAsPlaced, cleaned, PlacedAsTaken, PlacedInOrder, CellsInOrder}
use Rattle.grid.proofs.Accepts.{paired_low, call_fits, place-accepted, take-accepted, kinds_long, all_fit}
use Rattle.placing.proofs.Places.{is_kind, Nth, nth-place, nth-before, before_low, of_fac_lem, of_sdc_lem, of_msc, of_none}
use Rattle.grid.proofs.Counts.{totals, frame_facs}

-- 1.
pub places-counted : PlacesCounted
unfolding fac sdc msc
places-counted =
    record {
      facs = λ m o h e f l. frame_facs m o (paired_low m o h e) e f l;
      sdcs = λ m o h e. (totals m o (paired_low m o h e) e).sdcs;
      mscs = λ m o h e. (totals m o (paired_low m o h e) e).mscs;
    }

-- Number j of place p of a placed grid.
placed_at : (kinds : List ℕ) (cells : Cells) (p j : ℕ) → p < length kinds → j < 3 → get_or (placed kinds cells) (3 * p + j) (pos 0) ≡ place_number kinds cells p j
unfolding placed
placed_at kinds cells p j h l =
    let low : 3 * p + j < 3 * length kinds = omega arith in
    let place : (3 * p + j) / 3 ≡ p = omega arith in
    let number : (3 * p + j) % 3 ≡ j = omega arith in
    get_or-table (pos 0) _ (3 * length kinds) (3 * p + j) low ∙ ap₂ (place_number kinds cells) place number

length-placed : (kinds : List ℕ) (cells : Cells) → length (placed kinds cells) ≡ 3 * length kinds
unfolding placed
length-placed kinds cells = length-table _ 0 (3 * length kinds)

-- Number j of the ith place of a kind.
nth_number : (kind : ℕ) (kinds : List ℕ) (cells : Cells) (i j : ℕ) → i < count kind kinds → j < 2
    → get_or (placed kinds cells) (3 * nth kind kinds i + suc j) (pos 0) ≡ get_or (of_kind kind cells) (2 * i + j) (pos 0)
unfolding place_number
nth_number kind kinds cells i j h l =
    let n : Nth kind kinds i = nth-place kind kinds i h in
    placed_at kinds cells (nth kind kinds i) (suc j) n.inside (omega arith) ∙ rw (n.has, n.number)

-- A grid with a placed grid's cells at the places of a kind.
module _ (kind : ℕ) (kinds : List ℕ) (cells : Cells) (g : List ℤ) where
  record Agrees : Type 0 where
    same : (p : ℕ) → p < length kinds → get_or kinds p 0 ≡ kind → (j : ℕ) → j < 2 → get_or g (3 * p + suc j) (pos 0) ≡ get_or (placed kinds cells) (3 * p + suc j) (pos 0)

  take-placed : Agrees → length (of_kind kind cells) ≡ 2 * count kind kinds → taken_of kind kinds g ≡ of_kind kind cells
  unfolding taken_of
  take-placed a long =
      table_is _ (pos 0) (2 * count kind kinds) (of_kind kind cells) long
      (λ n h.
      let i : n / 2 < count kind kinds = omega arith in
      let whole : 2 * (n / 2) + n % 2 ≡ n = omega arith in
      let m : Nth kind kinds (n / 2) = nth-place kind kinds (n / 2) i in
      a.same (nth kind kinds (n / 2)) m.inside m.has (n % 2) (omega arith)
      ∙ (nth_number kind kinds cells (n / 2) (n % 2) i (omega arith) ∙ ap (λ k. get_or (of_kind kind cells) k (pos 0)) whole))

-- The answer says whether a call fits.
place_answer : (s : Settings) (cells : Cells) (grid : List ℤ) → (place_of s cells grid).answer ≡ 0 → CallFits s cells grid
unfolding place_of place_refusal
place_answer s cells grid e = call_fits 9 (omega arith) s cells grid (go (eqb (grid_refusal 9 s cells grid) 0) refl e)
  where
    go : (b : Bool) → eqb (grid_refusal 9 s cells grid) 0 ≡ b
        → (cond {A = PlaceYield} b (record { answer = 0; grid = placed (kinds s) cells }) (record { answer = grid_refusal 9 s cells grid; grid = grid })).answer ≡ 0 → grid_refusal 9 s cells grid ≡ 0
    go true t h = eqb-true _ 0 t
    go false t h = h

take_answer : (s : Settings) (cells : Cells) (grid : List ℤ) → (take_of s grid cells).answer ≡ 0 → CallFits s cells grid
unfolding take_of take_refusal
take_answer s cells grid e = call_fits 10 (omega arith) s cells grid (go (eqb (grid_refusal 10 s cells grid) 0) refl e)
  where
    go : (b : Bool) → eqb (grid_refusal 10 s cells grid) 0 ≡ b
        → (cond {A = TakeYield} b (record { answer = 0; cells = taken (kinds s) grid }) (record { answer = grid_refusal 10 s cells grid; cells = cells })).answer ≡ 0 → grid_refusal 10 s cells grid ≡ 0
    go true t h = eqb-true _ 0 t
    go false t h = h

-- Lengths of lent cells.
record Lent (s : Settings) (cells : Cells) : Type 0 where
  fac_long : length cells.fac ≡ 390
  sdc_long : length cells.sdc ≡ 2 * n_sdc s
  msc_long : length cells.msc ≡ 2 * n_sfa s

lent : (s : Settings) (cells : Cells) → cells_fit s cells ≡ true → Lent s cells
unfolding cells_fit fac_cells
lent s cells e =
    let rest = and_right (eqb (length cells.fac) 390) _ e in
    record {
      fac_long = eqb-true _ 390 (and_left (eqb (length cells.fac) 390) _ e);
      sdc_long = eqb-true _ _ (and_left (eqb (length cells.sdc) (2 * n_sdc s)) _ rest);
      msc_long = eqb-true _ _ (and_right (eqb (length cells.sdc) (2 * n_sdc s)) _ rest);
    }

-- The cells of each kind by their numbers.
fac-cells : (cells : Cells) → of_kind 4 cells ≡ cells.fac
fac-cells cells = of_fac_lem 4 cells refl

sdc-cells : (cells : Cells) → of_kind 5 cells ≡ cells.sdc
sdc-cells cells = of_sdc_lem 5 cells (λ e. omega arith) refl

msc-cells : (cells : Cells) → of_kind 6 cells ≡ cells.msc
msc-cells cells = of_msc 6 cells (λ e. omega arith) (λ e. omega arith) refl

-- 2.
module _ (s : Settings) (cells : Cells) (old g : List ℤ) (f : CallFits s cells old) where
  placed_grid : (place_of s cells old).grid ≡ placed (kinds s) cells
  placed_grid = ap (λ (y : PlaceYield). y.grid) (place-accepted s cells old f)

  module _ (same : SameCells s (place_of s cells old).grid g) where
    agrees : (kind : ℕ) → 4 ≤ kind → Agrees kind (kinds s) cells g
    unfolding fac
    agrees kind h = record { same = λ p l e j b. go p l e j b }
      where
        go : (p : ℕ) → p < length (kinds s) → get_or (kinds s) p 0 ≡ kind → (j : ℕ) → j < 2 → get_or g (3 * p + suc j) (pos 0) ≡ get_or (placed (kinds s) cells) (3 * p + suc j) (pos 0)
        go p l e zero b =
            same.real p (omega (arith, kinds_long s cells old f)) (omega arith) ∙ ap (λ (y : List ℤ). get_or y (3 * p + 1) (pos 0)) placed_grid
        go p l e (suc zero) b =
            same.imaginary p (omega (arith, kinds_long s cells old f)) (omega arith) ∙ ap (λ (y : List ℤ). get_or y (3 * p + 2) (pos 0)) placed_grid
        go p l e (suc (suc j)) b = absurd (omega arith)

    grid_fits : (out : Cells) → cells_fit s out ≡ true → CallFits s out g
    unfolding grid_numbers
    grid_fits out e =
        let l : Lent s out = lent s out e in
        record {
          settings = f.settings;
          fac_long = l.fac_long;
          sdc_long = l.sdc_long;
          msc_long = l.msc_long;
          grid_long = same.long ∙ (ap length placed_grid ∙ (length-placed (kinds s) cells ∙ ap (λ n. 3 * n) (kinds_long s cells old f)));
        }

    taken-cells : taken (kinds s) g ≡ cells
    unfolding taken fac sdc msc
    taken-cells =
        let a : AllFit (kinds s) old cells = all_fit s cells old f in
        let x : taken_of 4 (kinds s) g ≡ cells.fac = take-placed 4 (kinds s) cells g (agrees 4 (omega arith)) (rw (fac-cells cells) a.fac_fits.long) ∙ fac-cells cells in
        let y : taken_of 5 (kinds s) g ≡ cells.sdc = take-placed 5 (kinds s) cells g (agrees 5 (omega arith)) (rw (sdc-cells cells) a.sdc_fits.long) ∙ sdc-cells cells in
        let z : taken_of 6 (kinds s) g ≡ cells.msc = take-placed 6 (kinds s) cells g (agrees 6 (omega arith)) (rw (msc-cells cells) a.msc_fits.long) ∙ msc-cells cells in
        rw (x, y, z)

pub taken_as_placed : TakenAsPlaced
taken_as_placed =
    record {
      cells = λ s cells old g out e same fit.
          let f : CallFits s cells old = place_answer s cells old e in
          take-accepted s out g (grid_fits s cells old g f same out fit)
          ∙ ap (λ (y : Cells). record { answer = 0; cells = y }) (taken-cells s cells old g f same);
    }

-- 4.
in_order_lem : (s : Settings) (cells : Cells) (grid : List ℤ) → grid ≡ placed (kinds s) cells → (kind i : ℕ) → i < count kind (kinds s) → PlacedInOrder s cells grid kind i
in_order_lem s cells grid e kind i h =
    let n : Nth kind (kinds s) i = nth-place kind (kinds s) i h in
    let a = nth_number kind (kinds s) cells i 0 h (omega arith) in
    record {
      has = n.has;
      number = n.number;
      real = rw e (rw (add-zero (2 * i)) at a);
      imaginary = rw e (nth_number kind (kinds s) cells i 1 h (omega arith));
    }

pub cells_in_order : CellsInOrder
cells_in_order =
    record {
      cells = λ s cells old e kind i h. in_order_lem s cells (place_of s cells old).grid (placed_grid s cells old old (place_answer s cells old e)) kind i h;
    }

-- 3. No kind is above 6.
chain_low : (a b c d e : Bool) (x : ℕ) → x ≤ 6 → first a 0 (first b 1 (first c 2 (first d 3 (first e 4 x)))) ≤ 6
unfolding first
chain_low true b c d e x h = omega arith
chain_low false true c d e x h = omega arith
chain_low false false true d e x h = omega arith
chain_low false false false true e x h = omega arith
chain_low false false false false true x h = omega arith
chain_low false false false false false x h = h

data_low : (m f s : ℕ) → data_kind m f s ≤ 6
unfolding data_kind first sdc msc
data_low m f s = go (is_sdc m f s)
  where
    go : (b : Bool) → cond b 5 6 ≤ 6
    go true = omega arith
    go false = omega arith

kind_low : (m f s k : ℕ) → kind_of m f s k ≤ 6
unfolding kind_of fac
kind_low m f s k =
    chain_low (has (unused m) k) (has (frequency m) k) (has (time m s) k) (is_gain m s k) (has (fac_carriers m s) k) (data_kind m f s) (data_low m f s)

kinds_low : (s : Settings) (p : ℕ) → p < length (kinds s) → get_or (kinds s) p 0 ≤ 6
unfolding kinds grid_kinds place_kind symbol_kind
kinds_low s p h =
    let m : ℕ = s.mode in
    let o : ℕ = s.occupancy in
    let low : p < places m o = omega (arith, length-table (place_kind m o) 0 (places m o)) in
    rw (get_or-table 0 (place_kind m o) (places m o) p low) (kind_low m _ _ _)

-- Cells taken off a grid, by kind.
taken-fac : (kinds : List ℕ) (g : List ℤ) → (taken kinds g).fac ≡ taken_of 4 kinds g
unfolding taken fac
taken-fac kinds g = refl

taken-sdc : (kinds : List ℕ) (g : List ℤ) → (taken kinds g).sdc ≡ taken_of 5 kinds g
unfolding taken sdc
taken-sdc kinds g = refl

taken-msc : (kinds : List ℕ) (g : List ℤ) → (taken kinds g).msc ≡ taken_of 6 kinds g
unfolding taken msc
taken-msc kinds g = refl

length_taken : (kind : ℕ) (kinds : List ℕ) (g : List ℤ) → length (taken_of kind kinds g) ≡ 2 * count kind kinds
unfolding taken_of
length_taken kind kinds g = length-table _ 0 (2 * count kind kinds)

six : (k : ℕ) → 4 ≤ k → k ≤ 6 → (k ≡ 4 → ⊥) → (k ≡ 5 → ⊥) → k ≡ 6
six k h l a b = go (below_or k 5) (below_or k 6)
  where
    go : (k < 5) ⊎ (5 ≤ k) → (k < 6) ⊎ (6 ≤ k) → k ≡ 6
    go (inl d) e = absurd (a (omega arith))
    go (inr d) (inl e) = absurd (b (omega arith))
    go (inr d) (inr e) = omega arith

taken_of_lem : (kind : ℕ) (kinds : List ℕ) (g : List ℤ) → 4 ≤ kind → kind ≤ 6 → of_kind kind (taken kinds g) ≡ taken_of kind kinds g
taken_of_lem kind kinds g h l = go (is_kind kind 4) (is_kind kind 5)
  where
    go : (kind ≡ 4) ⊎ (kind ≡ 4 → ⊥) → (kind ≡ 5) ⊎ (kind ≡ 5 → ⊥) → of_kind kind (taken kinds g) ≡ taken_of kind kinds g
    go (inl e) n = of_fac_lem kind (taken kinds g) e ∙ (taken-fac kinds g ∙ ap (λ k. taken_of k kinds g) (sym e))
    go (inr a) (inl e) = of_sdc_lem kind (taken kinds g) a e ∙ (taken-sdc kinds g ∙ ap (λ k. taken_of k kinds g) (sym e))
    go (inr a) (inr b) =
        let e : kind ≡ 6 = six kind h l a b in
        of_msc kind (taken kinds g) a b e ∙ (taken-msc kinds g ∙ ap (λ k. taken_of k kinds g) (sym e))

module _ (kinds : List ℕ) (g : List ℤ) where
  -- A number of a cell, placed again where it was taken.
  again : (p j : ℕ) → p < length kinds → 4 ≤ get_or kinds p 0 → get_or kinds p 0 ≤ 6 → j < 2 → place_number kinds (taken kinds g) p (suc j) ≡ get_or g (3 * p + suc j) (pos 0)
  unfolding place_number taken_of
  again p j h a b l =
      let k : ℕ = get_or kinds p 0 in
      let i : ℕ = before k kinds p in
      let low : i < count k kinds = before_low k kinds p h refl in
      let half : (2 * i + j) / 2 ≡ i = omega arith in
      let odd : (2 * i + j) % 2 ≡ j = omega arith in
      let at : nth k kinds i ≡ p = nth-before k kinds p h refl in
      ap (λ (c : List ℤ). get_or c (2 * i + j) (pos 0)) (taken_of_lem k kinds g a b)
      ∙ (get_or-table (pos 0) _ (2 * count k kinds) (2 * i + j) (omega arith) ∙ rw (half, odd, at))

  -- Other places have (0, 0).
  blank : (cells : Cells) (p j : ℕ) → get_or kinds p 0 < 4 → place_number kinds cells p (suc j) ≡ pos 0
  unfolding place_number
  blank cells p j h = rw (of_none (get_or kinds p 0) cells (λ e. omega arith) (λ e. omega arith) (λ e. omega arith))

  number-zero : (cells : Cells) (p : ℕ) → place_number kinds cells p 0 ≡ pos (get_or kinds p 0)
  unfolding place_number
  number-zero cells p = refl

  number-again : (n : ℕ) → n < 3 * length kinds → ((p : ℕ) → p < length kinds → get_or kinds p 0 ≤ 6)
      → place_number kinds (taken kinds g) (n / 3) (n % 3) ≡ cond (eqb (n % 3) 0) (pos (get_or kinds (n / 3) 0)) (cond (ltb (get_or kinds (n / 3) 0) 4) (pos 0) (get_or g n (pos 0)))
  number-again n h low = go (n % 3) refl (below_or (get_or kinds (n / 3) 0) 4)
    where
      go : (j : ℕ) → n % 3 ≡ j → (get_or kinds (n / 3) 0 < 4) ⊎ (4 ≤ get_or kinds (n / 3) 0)
          → place_number kinds (taken kinds g) (n / 3) j ≡ cond (eqb j 0) (pos (get_or kinds (n / 3) 0)) (cond (ltb (get_or kinds (n / 3) 0) 4) (pos 0) (get_or g n (pos 0)))
      go zero e d = number-zero (taken kinds g) (n / 3)
      go (suc j) e (inl d) = rw (ne_eqb (suc j) 0 (λ z. omega arith), lt-ltb (get_or kinds (n / 3) 0) 4 d) (blank (taken kinds g) (n / 3) j d)
      go (suc j) e (inr d) =
          let whole : 3 * (n / 3) + suc j ≡ n = omega arith in
          rw (ne_eqb (suc j) 0 (λ z. omega arith), le-ltb (get_or kinds (n / 3) 0) 4 d)
          (again (n / 3) j (omega arith) d (low (n / 3) (omega arith)) (omega arith) ∙ ap (λ k. get_or g k (pos 0)) whole)

  placed-again : ((p : ℕ) → p < length kinds → get_or kinds p 0 ≤ 6) → placed kinds (taken kinds g) ≡ cleaned kinds g
  unfolding placed cleaned fac
  placed-again low = table_ext _ _ 0 (3 * length kinds) (λ n a b. number-again n (omega arith) low)

-- Cells taken off a grid fit a grid again.
again-fits : (s : Settings) (g out : List ℤ) (old : Cells) → CallFits s old g → length out ≡ grid_numbers s → CallFits s (taken (kinds s) g) out
again-fits s g out old f e =
    let a : AllFit (kinds s) g old = all_fit s old g f in
    record {
      settings = f.settings;
      fac_long = ap length (taken-fac (kinds s) g) ∙ (length_taken 4 (kinds s) g ∙ (sym a.fac_fits.long ∙ f.fac_long));
      sdc_long = ap length (taken-sdc (kinds s) g) ∙ (length_taken 5 (kinds s) g ∙ (sym a.sdc_fits.long ∙ f.sdc_long));
      msc_long = ap length (taken-msc (kinds s) g) ∙ (length_taken 6 (kinds s) g ∙ (sym a.msc_fits.long ∙ f.msc_long));
      grid_long = e;
    }

pub placed_as_taken : PlacedAsTaken
placed_as_taken =
    record {
      grid = λ s g out old e l.
          let f : CallFits s old g = take_answer s old g e in
          ap (λ (y : TakeYield). place_of s y.cells out) (take-accepted s old g f)
          ∙ (place-accepted s (taken (kinds s) g) out (again-fits s g out old f l)
          ∙ ap (λ (y : List ℤ). record { answer = 0; grid = y }) (placed-again (kinds s) g (kinds_low s)));
    }
