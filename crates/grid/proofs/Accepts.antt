-- Accepted and refused calls. Assumes nothing.
use Prim.Native.Nat.{ℕ, zero, suc, ◌-◌, ◌*◌, ◌/◌, ◌≤◌, ◌<◌}
use mathlib.Core.Path.{◌≡◌, refl, sym, ap, ◌∙◌}
use mathlib.Core.Bool.{Bool, true, false, cond, ◌&&◌}
use mathlib.Core.List.{List, ◌++◌}
use native.Mathlib.Nat.{mul-le-mul_right, one-mul, pos_of_ne-zero}
use native.Mathlib.Omega.{arith}
use lib.Dec.{eqb, ltb}
use lib.ListN.{length, take, drop}
use lib.Seq.{take_at}
use lib.IntN.{ℤ}
use borrow.Author.Tests.{eq-eqb, ne_eqb, eqb-true, ltb-true, lt-ltb, not-false}
use Rattle.lists.proofs.Bools.{and_left, and_right}
use Rattle.lists.proofs.Parts.{from_start, length-start, length-written}
use Rattle.lists.proofs.Tables.{length-table}
use Rattle.partlengths.specs.Cells.{fac_cells}
use Rattle.settings.specs.declared.Settings.{Settings}
use Rattle.settings.specs.Accepted.{Ranges}
use Rattle.settings.specs.Refusal.{first, refusal, paired}
use Rattle.settings.specs.Lengths.{n_sdc, n_sfa}
use Rattle.settings.proofs.Bounds.{accepted_of}
use Rattle.kinds.specs.Carriers.{frame_symbols, symbols, carriers}
use Rattle.kinds.specs.Places.{places, grid_kinds}
use Rattle.placing.specs.Cells.{Cells, placed, taken}
use Rattle.grid.specs.Calls.{SizesYield, kinds, grid_numbers, no_grid, some_grid, grid_sizes, cells_fit, grid_refusal, place_refusal, take_refusal, place_of, take_of}
use Rattle.grid.specs.Clauses.{lengths_refusal, CallFits}
use Rattle.placing.specs.Clauses.{GridFits, AllFit}
use Rattle.kinds.specs.Clauses.{Pairing, KindsFit}
use Rattle.kinds.proofs.Bands.{Band, band}
use Rattle.grid.proofs.Counts.{Totals, totals}

-- A mode and an occupancy that are allowed together.
pub paired_low : (m o : ℕ) → m < 4 → paired m o ≡ true → Pairing m o
unfolding paired
paired_low m o h e = record { mode_low = h; occupancy_low = ltb-true o 6 (and_left (ltb o 6) _ e) }

pub pairing_of : (s : Settings) → refusal s ≡ 0 → Pairing s.mode s.occupancy
pairing_of s e =
    let r : Ranges s = (accepted_of s e).ranges in
    paired_low s.mode s.occupancy (omega arith) r.pairing

-- The sizes of a grid as the code finds them.
pub grid_accepts : (s : Settings) → refusal s ≡ 0 → grid_sizes s ≡ some_grid s
unfolding grid_sizes
grid_accepts s e = rw (eq-eqb (refusal s) 0 e)

pub grid_refuses : (s : Settings) (r : ℕ) → r ≡ refusal s → (r ≡ 0 → ⊥) → record { refusal = r; symbols = 0; carriers = 0; numbers = 0 } ≡ grid_sizes s
unfolding grid_sizes no_grid
grid_refuses s r e n = rw (ne_eqb (refusal s) 0 (λ z. n (e ∙ z)), e)

pub grid_found : (s : Settings) (t c : ℕ) → refusal s ≡ 0 → t ≡ frame_symbols s.mode → c ≡ carriers s.mode s.occupancy
    → record { refusal = 0; symbols = 3 * t; carriers = c; numbers = 3 * (3 * t * c) } ≡ grid_sizes s
unfolding some_grid grid_numbers places symbols
grid_found s t c e f g = rw (f, g) (sym (grid_accepts s e))

-- Their bounds.
pub record Small (t c : ℕ) : Type 0 where
  pub few : t ≤ 24
  pub all : 3 * t * c ≤ 20745
  pub wide : c ≤ 20745

pub small : (m o t c : ℕ) → Pairing m o → t ≡ frame_symbols m → c ≡ carriers m o → Small t c
unfolding places symbols
small m o t c p e f =
    let b : Band m o = band m o p in
    let all : 3 * t * c ≤ 20745 = rw (e, f) b.few in
    let some : 1 * c ≤ 3 * t * c = mul-le-mul_right c (omega arith) in
    record { few = omega arith; all = all; wide = omega (arith, one-mul c) }

-- Numbers of cells.
pub record Long (s : Settings) : Type 0 where
  pub sdc_low : n_sdc s ≤ 846
  pub msc_low : n_sfa s ≤ 18356

pub long : (s : Settings) → refusal s ≡ 0 → Long s
long s e = let r : Ranges s = (accepted_of s e).ranges in record { sdc_low = omega arith; msc_low = omega arith }

-- The sizes say whether the settings are refused, and how long a grid is.
pub size-refusal : (s : Settings) → (grid_sizes s).refusal ≡ refusal s
unfolding grid_sizes some_grid no_grid
size-refusal s = go (eqb (refusal s) 0) refl
  where
    go : (b : Bool) → eqb (refusal s) 0 ≡ b → (cond b (some_grid s) (no_grid (refusal s))).refusal ≡ refusal s
    go true e = sym (eqb-true (refusal s) 0 e)
    go false e = refl

module _ (s : Settings) (z : SizesYield) (e : z ≡ grid_sizes s) where
  is_refusal : z.refusal ≡ refusal s
  is_refusal = ap (λ (y : SizesYield). y.refusal) e ∙ size-refusal s

  pub sized : z.refusal ≡ 0 → refusal s ≡ 0
  sized h = sym is_refusal ∙ h

  is_numbers : refusal s ≡ 0 → z.numbers ≡ grid_numbers s
  unfolding some_grid
  is_numbers h = ap (λ (y : SizesYield). y.numbers) (e ∙ grid_accepts s h)

  -- The number that is given, by the first test that fails.
  module _ (n f d m g : ℕ) where
    pub refused_settings : (z.refusal ≡ 0 → ⊥) → z.refusal ≡ lengths_refusal n s f d m g
    unfolding lengths_refusal first
    refused_settings h =
        let some : 0 < refusal s = pos_of_ne-zero (λ k. h (is_refusal ∙ k)) in
        rw (lt-ltb 0 (refusal s) some) is_refusal

    module _ (a b : ℕ) (h : z.refusal ≡ 0) (i : a ≡ n_sdc s) (j : b ≡ n_sfa s) where
      pub refused-cells : eqb f 390 && (eqb d (2 * a) && eqb m (2 * b)) ≡ false → n ≡ lengths_refusal n s f d m g
      unfolding lengths_refusal first
      refused-cells t = rw (sized h, ← i, ← j, t)

      pub refused_grid : eqb f 390 && (eqb d (2 * a) && eqb m (2 * b)) ≡ true → (g ≡ z.numbers → ⊥) → 17 ≡ lengths_refusal n s f d m g
      unfolding lengths_refusal first
      refused_grid t k = rw (sized h, ← i, ← j, t, ne_eqb g (grid_numbers s) (λ q. k (q ∙ sym (is_numbers (sized h)))))

      pub not-refused : eqb f 390 && (eqb d (2 * a) && eqb m (2 * b)) ≡ true → g ≡ z.numbers → 0 ≡ lengths_refusal n s f d m g
      unfolding lengths_refusal first
      not-refused t k = rw (sized h, ← i, ← j, t, eq-eqb g (grid_numbers s) (k ∙ is_numbers (sized h)))

-- A call that is not refused, and one that is.
module _ (n : ℕ) (some : 1 ≤ n) (s : Settings) (cells : Cells) (grid : List ℤ) where
  -- The refusal is that of the lengths.
  pub by_lengths : grid_refusal n s cells grid ≡ lengths_refusal n s (length cells.fac) (length cells.sdc) (length cells.msc) (length grid)
  unfolding grid_refusal lengths_refusal cells_fit fac_cells
  by_lengths = refl

  go_first : (b : Bool) (x y : ℕ) → 1 ≤ x → first b x y ≡ 0 → b ≡ false
  unfolding first
  go_first true x y h e = absurd (omega arith)
  go_first false x y h e = refl

  go_rest : (b : Bool) (x y : ℕ) → 1 ≤ x → first b x y ≡ 0 → y ≡ 0
  unfolding first
  go_rest true x y h e = absurd (omega arith)
  go_rest false x y h e = e

  own-zero : (r y : ℕ) → first (ltb 0 r) r y ≡ 0 → r ≡ 0
  unfolding first
  own-zero zero y e = refl
  own-zero (suc r) y e = absurd (omega (arith, rw (lt-ltb 0 (suc r) (omega arith)) at e))

  zero_rest : (r y : ℕ) → r ≡ 0 → first (ltb 0 r) r y ≡ 0 → y ≡ 0
  unfolding first
  zero_rest r y h e = rw h at e

  pub call_fits : grid_refusal n s cells grid ≡ 0 → CallFits s cells grid
  unfolding grid_refusal cells_fit fac_cells
  call_fits e =
      let zero_settings : refusal s ≡ 0 = own-zero (refusal s) _ e in
      let after = zero_rest (refusal s) _ zero_settings e in
      let fit = not-false _ (go_first _ n _ some after) in
      let last = go_rest _ n _ some after in
      let rest = and_right (eqb (length cells.fac) 390) _ fit in
      record {
        settings = zero_settings;
        fac_long = eqb-true _ 390 (and_left (eqb (length cells.fac) 390) _ fit);
        sdc_long = eqb-true _ _ (and_left (eqb (length cells.sdc) (2 * n_sdc s)) _ rest);
        msc_long = eqb-true _ _ (and_right (eqb (length cells.sdc) (2 * n_sdc s)) _ rest);
        grid_long = eqb-true _ _ (not-false _ (go_first _ 17 _ (omega arith) last));
      }

  pub fits-call : CallFits s cells grid → grid_refusal n s cells grid ≡ 0
  unfolding grid_refusal cells_fit fac_cells first
  fits-call f =
      rw (f.settings, eq-eqb _ _ f.fac_long, eq-eqb _ _ f.sdc_long, eq-eqb _ _ f.msc_long, eq-eqb _ _ f.grid_long)

module _ (s : Settings) (cells : Cells) (grid : List ℤ) (r : ℕ) where
  pub place-refused : r ≡ lengths_refusal 9 s (length cells.fac) (length cells.sdc) (length cells.msc) (length grid) → (r ≡ 0 → ⊥)
      → record { answer = r; grid = grid } ≡ place_of s cells grid
  unfolding place_of place_refusal
  place-refused e n =
      let is : r ≡ grid_refusal 9 s cells grid = e ∙ sym (by_lengths 9 (omega arith) s cells grid) in
      rw (ne_eqb (grid_refusal 9 s cells grid) 0 (λ z. n (is ∙ z)), is)

  pub place-fits : r ≡ lengths_refusal 9 s (length cells.fac) (length cells.sdc) (length cells.msc) (length grid) → r ≡ 0 → CallFits s cells grid
  place-fits e z = call_fits 9 (omega arith) s cells grid (by_lengths 9 (omega arith) s cells grid ∙ (sym e ∙ z))

  pub take-refused : r ≡ lengths_refusal 10 s (length cells.fac) (length cells.sdc) (length cells.msc) (length grid) → (r ≡ 0 → ⊥)
      → record { answer = r; cells = cells } ≡ take_of s grid cells
  unfolding take_of take_refusal
  take-refused e n =
      let is : r ≡ grid_refusal 10 s cells grid = e ∙ sym (by_lengths 10 (omega arith) s cells grid) in
      rw (ne_eqb (grid_refusal 10 s cells grid) 0 (λ z. n (is ∙ z)), is)

  pub take-fits : r ≡ lengths_refusal 10 s (length cells.fac) (length cells.sdc) (length cells.msc) (length grid) → r ≡ 0 → CallFits s cells grid
  take-fits e z = call_fits 10 (omega arith) s cells grid (by_lengths 10 (omega arith) s cells grid ∙ (sym e ∙ z))

module _ (s : Settings) (cells : Cells) (grid : List ℤ) (f : CallFits s cells grid) where
  pub place-accepted : place_of s cells grid ≡ record { answer = 0; grid = placed (kinds s) cells }
  unfolding place_of place_refusal
  place-accepted = rw (eq-eqb _ 0 (fits-call 9 (omega arith) s cells grid f))

  pub take-accepted : take_of s grid cells ≡ record { answer = 0; cells = taken (kinds s) grid }
  unfolding take_of take_refusal
  take-accepted = rw (eq-eqb _ 0 (fits-call 10 (omega arith) s cells grid f))

  pub place_done : (out : List ℤ) → out ≡ placed (kinds s) cells → record { answer = 0; grid = out } ≡ place_of s cells grid
  place_done out e = rw e (sym place-accepted)

  pub take_done : (out : Cells) → out ≡ taken (kinds s) grid → record { answer = 0; cells = out } ≡ take_of s grid cells
  take_done out e = rw e (sym take-accepted)

  -- The places of the settings, and the kinds of as many.
  kinds_are : length (grid_kinds s.mode s.occupancy) ≡ places s.mode s.occupancy
  unfolding grid_kinds
  kinds_are = length-table _ 0 (places s.mode s.occupancy)

  pub kinds_long : length (kinds s) ≡ places s.mode s.occupancy
  unfolding kinds grid_kinds
  kinds_long = length-table _ 0 (places s.mode s.occupancy)

  pub grid_long_lem : length grid ≡ 3 * places s.mode s.occupancy
  unfolding grid_numbers
  grid_long_lem = f.grid_long

  -- The part of the buffer that kinds are written to.
  pub third : length grid / 3 ≡ places s.mode s.occupancy
  third = omega (arith, grid_long_lem)

  pub third_low : length grid / 3 ≤ 20745
  third_low = omega (arith, third, (band s.mode s.occupancy (pairing_of s f.settings)).few)

  pub kinds-fit : (buffer : List ℕ) → length buffer ≡ 20745 → KindsFit s.mode s.occupancy (take (length grid / 3 - 0) buffer)
  kinds-fit buffer e =
      record {
        pairing = pairing_of s f.settings;
        long = length-start (length grid / 3) buffer (omega (arith, third_low)) ∙ third;
      }

  -- What stands there then.
  pub kinds_there : (buffer part : List ℕ) → part ≡ grid_kinds s.mode s.occupancy → take (length grid / 3 - 0) (part ++ drop (length grid / 3 - 0) buffer) ≡ kinds s
  unfolding kinds
  kinds_there buffer part e =
      rw (from_start (length grid / 3)) (take_at part (drop (length grid / 3) buffer) (length grid / 3) (ap length e ∙ (kinds_long ∙ sym third)) ∙ e)

  pub grid_fits : GridFits (kinds s) grid
  grid_fits = record { long = rw kinds_long grid_long_lem; low = omega (arith, kinds_long, third, third_low) }

  -- Theorem 1 makes the cells fit the places.
  totals_of : Totals s.mode s.occupancy
  totals_of = totals s.mode s.occupancy (pairing_of s f.settings) (accepted_of s f.settings).ranges.pairing

  pub all_fit : AllFit (kinds s) grid cells
  unfolding kinds n_sdc n_sfa
  all_fit =
      record {
        fac_fits = record { grids = grid_fits; long = omega (arith, f.fac_long, totals_of.facs) };
        sdc_fits = record { grids = grid_fits; long = omega (arith, f.sdc_long, totals_of.sdcs) };
        msc_fits = record { grids = grid_fits; long = omega (arith, f.msc_long, totals_of.mscs) };
      }

  -- The same over the part of the buffer.
  module _ (buffer part : List ℕ) (e : part ≡ grid_kinds s.mode s.occupancy) where
    pub part-fits : GridFits (take (length grid / 3 - 0) (part ++ drop (length grid / 3 - 0) buffer)) grid
    part-fits = rw (kinds_there buffer part e) grid_fits

    pub parts-fit : AllFit (take (length grid / 3 - 0) (part ++ drop (length grid / 3 - 0) buffer)) grid cells
    parts-fit = rw (kinds_there buffer part e) all_fit

    pub part_placed : (out : List ℤ) → out ≡ placed (take (length grid / 3 - 0) (part ++ drop (length grid / 3 - 0) buffer)) cells → out ≡ placed (kinds s) cells
    part_placed out h = h ∙ ap (λ (l : List ℕ). placed l cells) (kinds_there buffer part e)

    pub part-taken : (out : Cells) → out ≡ taken (take (length grid / 3 - 0) (part ++ drop (length grid / 3 - 0) buffer)) grid → out ≡ taken (kinds s) grid
    part-taken out h = h ∙ ap (λ (l : List ℕ). taken l grid) (kinds_there buffer part e)

    pub part_long : length buffer ≡ 20745 → length grid / 3 ≤ length (part ++ drop (length grid / 3 - 0) buffer)
    part_long h = omega (arith, length-written buffer part (length grid / 3) (omega (arith, third_low)) (ap length e ∙ (kinds_are ∙ sym third)), third_low)
