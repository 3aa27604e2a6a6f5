-- Refusal 0 as facts and back, and what accepted and refused calls yield, one equation each. Assumes nothing.
use Prim.Native.Nat.{ℕ, zero, suc, ◌*◌, ◌<◌}
use mathlib.Core.Path.{◌≡◌, refl}
use mathlib.Core.Bool.{Bool, true, false, cond, not, ◌&&◌}
use mathlib.Core.List.{List}
use native.Mathlib.Omega.{arith}
use lib.ListN.{length}
use lib.IntN.{ℤ}
use lib.Dec.{eqb, ltb}
use borrow.Author.Tests.{lt-ltb, ltb-true, eq-eqb, ne_eqb, eqb-true, not-false}
use Rattle.lists.specs.Lists.{table}
use Rattle.settings.specs.declared.Settings.{Settings}
use Rattle.channels.specs.declared.Scheme.{Scheme}
use Rattle.settings.specs.Refusal.{first}
use Rattle.channels.specs.Scheme.{scheme_refusal}
use Rattle.settings.specs.Lengths.{n_mux}
use Rattle.settings.specs.Sizes.{depth}
use Rattle.lists.specs.Bools.{every, first_fault}
use Rattle.superframe.specs.declared.State.{State}
use Rattle.superframe.specs.Answers.{Finished, Refused}
use Rattle.superframe.specs.Call.{memory_length, memory_cell, in_order}
use Rattle.superframe.specs.Interleaving.{finished_frames}
use Rattle.superframe.specs.Reset.{reset_refusal, reset_of, start_state, start_memory}
use Rattle.superframe.specs.Code.{CodeCall, byte_lengths, cell_lengths, spares_zero, code_refusal, code_accepted, code_refused, code_of, progress_of, state_of}
use Rattle.superframe.specs.Read.{ReadCall, answer_number, rows_of, point_tests, given_tests, order_refusal, answer_of, read_accepted, read_refused, read_of}
use Rattle.superframe.specs.Clauses.{Fits, Ordered, BytesFit, CellsFit, CodeFits, ReadFits}
use Rattle.lists.proofs.Bools.{both, and_left, and_right}

-- The first test that holds gives its number.
pub first_hold : (t : Bool) (n m : ℕ) → t ≡ true → first t n m ≡ n
unfolding first
first_hold t n m h = rw h

-- Number 0 means that the test fails and the rest gives 0.
pub first-zero : (t : Bool) (n m : ℕ) → 0 < n → first t n m ≡ 0 → (t ≡ false) × (m ≡ 0)
unfolding first
first-zero true n m h e = absurd (omega arith)
first-zero false n m h e = (refl, e)

pub first-own : (r m : ℕ) → first (ltb 0 r) r m ≡ 0 → (r ≡ 0) × (m ≡ 0)
unfolding first
first-own zero m e = (refl, e)
first-own (suc r) m e = absurd (omega (arith, first_hold (ltb 0 (suc r)) (suc r) m (lt-ltb 0 (suc r) (omega arith))))

pub first-own-pass : (r m : ℕ) → r ≡ 0 → first (ltb 0 r) r m ≡ m
unfolding first
first-own-pass r m h = rw h

-- Three numbers are as they must be.
three_equal : (a b c x y z : ℕ) → (eqb a x && (eqb b y && eqb c z)) ≡ true → (a ≡ x) × (b ≡ y) × (c ≡ z)
three_equal a b c x y z h =
    let r = and_right (eqb a x) _ h in
    (eqb-true a x (and_left _ (eqb b y && eqb c z) h), eqb-true b y (and_left _ (eqb c z) r), eqb-true c z (and_right (eqb b y) _ r))

-- The tests of lengths and of order as facts, and back.
module _ (s : Settings) where
  pub bytes_fit : (fac sdc msc : List ℕ) → byte_lengths s fac sdc msc ≡ true → BytesFit s fac sdc msc
  unfolding byte_lengths
  bytes_fit fac sdc msc h = let r = three_equal _ _ _ _ _ _ h in record { faclong = r.0; sdclong = r.1; msclong = r.2 }

  pub fit-bytes : (fac sdc msc : List ℕ) → BytesFit s fac sdc msc → byte_lengths s fac sdc msc ≡ true
  unfolding byte_lengths
  fit-bytes fac sdc msc h = both (eq-eqb _ _ h.faclong) (both (eq-eqb _ _ h.sdclong) (eq-eqb _ _ h.msclong))

  pub cells_fit_lem : (fac sdc msc : List ℤ) → cell_lengths s fac sdc msc ≡ true → CellsFit s fac sdc msc
  unfolding cell_lengths
  cells_fit_lem fac sdc msc h = let r = three_equal _ _ _ _ _ _ h in record { faclong = r.0; sdclong = r.1; msclong = r.2 }

  pub fit-cells : (fac sdc msc : List ℤ) → CellsFit s fac sdc msc → cell_lengths s fac sdc msc ≡ true
  unfolding cell_lengths
  fit-cells fac sdc msc h = both (eq-eqb _ _ h.faclong) (both (eq-eqb _ _ h.sdclong) (eq-eqb _ _ h.msclong))

pub ordered : (empties : Bool) (state : State) (memory : List ℕ) → in_order empties state memory ≡ true → Ordered empties state memory
unfolding in_order
ordered empties state memory h =
    let D = depth state.scheme.settings in
    let cells = every (table (memory_cell empties state.scheme memory) 0 (D * n_mux state.scheme.settings)) in
    let r = and_right (ltb state.position D) _ h in
    record {
      position = ltb-true _ _ (and_left _ (ltb state.count D && cells) h);
      count = ltb-true _ _ (and_left _ cells r);
      cells = and_right (ltb state.count D) _ r;
    }

pub in_order_lem : (empties : Bool) (state : State) (memory : List ℕ) → Ordered empties state memory → in_order empties state memory ≡ true
unfolding in_order
in_order_lem empties state memory h = both (lt-ltb _ _ h.position) (both (lt-ltb _ _ h.count) h.cells)

-- Reset: 0 exactly if the settings are allowed and memory has their length.
module _ (old : State) (s : Scheme) (memory : List ℕ) where
  pub reset_fits : reset_refusal s memory ≡ 0 → Fits s memory
  unfolding reset_refusal
  reset_fits h =
      let a = first-own (scheme_refusal s) _ h in
      let b = first-zero (not (eqb (length memory) (memory_length s.settings))) 8 0 (omega arith) a.1 in
      record { scheme = a.0; long = eqb-true _ _ (not-false _ b.0) }

  pub fits_reset : Fits s memory → reset_refusal s memory ≡ 0
  unfolding reset_refusal first
  fits_reset h = rw (h.scheme, eq-eqb _ _ h.long)

  -- What an accepted and what a refused Reset yields.
  pub reset_accepts : reset_refusal s memory ≡ 0
      → reset_of old s memory ≡ record { done = record { refusal = 0; state = start_state s }; memory = start_memory s }
  unfolding reset_of
  reset_accepts h = rw (eq-eqb (reset_refusal s memory) 0 h)

  pub reset_refuses : (r : ℕ) → reset_refusal s memory ≡ r → 0 < r
      → reset_of old s memory ≡ record { done = record { refusal = r; state = old }; memory = memory }
  unfolding reset_of
  reset_refuses r h p = rw (ne_eqb (reset_refusal s memory) 0 (λ e. omega arith), h)

-- Code: 0 exactly if all the facts hold.
module _ (state : State) (memory : List ℕ) (c : CodeCall) where
  pub code_fits : code_refusal state memory c ≡ 0 → CodeFits state memory c
  unfolding code_refusal
  code_fits h =
      let s = state.scheme in
      let a = first-own (scheme_refusal s) _ h in
      let b = first-zero (not (eqb (length memory) (memory_length s.settings))) 8 _ (omega arith) a.1 in
      let d = first-zero (not (byte_lengths s.settings c.fac c.sdc c.msc)) 9 _ (omega arith) b.1 in
      let e = first-zero (not (cell_lengths s.settings c.faccells c.sdccells c.msccells)) 10 _ (omega arith) d.1 in
      let f = first-zero (not (spares_zero s.settings c.sdc c.msc)) 11 _ (omega arith) e.1 in
      let g = first-zero (not (in_order false state memory)) 12 0 (omega arith) f.1 in
      record {
        fits = record { scheme = a.0; long = eqb-true _ _ (not-false _ b.0) };
        bytes = bytes_fit s.settings _ _ _ (not-false _ d.0);
        cells = cells_fit_lem s.settings _ _ _ (not-false _ e.0);
        spares = not-false _ f.0;
        order = ordered false state memory (not-false _ g.0);
      }

  pub fits_code : CodeFits state memory c → code_refusal state memory c ≡ 0
  unfolding code_refusal first
  fits_code h =
      let s = state.scheme in
      rw (h.fits.scheme, eq-eqb _ _ h.fits.long, fit-bytes s.settings _ _ _ h.bytes, fit-cells s.settings _ _ _ h.cells, h.spares, in_order_lem false state memory h.order)

  -- What an accepted and what a refused call yields.
  pub code_accepts : code_refusal state memory c ≡ 0 → code_of state memory c ≡ code_accepted state memory c
  unfolding code_of
  code_accepts h = rw (eq-eqb (code_refusal state memory c) 0 h)

  pub code_refuses : (r : ℕ) → code_refusal state memory c ≡ r → 0 < r → code_of state memory c ≡ code_refused r state memory c
  unfolding code_of
  code_refuses r h p = rw (ne_eqb (code_refusal state memory c) 0 (λ e. omega arith), h)

-- Read: no number up to 12 exactly if all the facts hold.
module _ (state : State) (memory : List ℕ) (c : ReadCall) where
  pub read_fits : order_refusal state memory c ≡ 0 → ReadFits state memory c
  unfolding order_refusal
  read_fits h =
      let s = state.scheme in
      let a = first-own (scheme_refusal s) _ h in
      let b = first-zero (not (eqb (length memory) (memory_length s.settings))) 8 _ (omega arith) a.1 in
      let d = first-zero (not (cell_lengths s.settings c.faccells c.sdccells c.msccells)) 9 _ (omega arith) b.1 in
      let e = first-zero (not (byte_lengths s.settings c.fac c.sdc c.msc)) 10 _ (omega arith) d.1 in
      let g = first-zero (not (in_order false state memory)) 12 0 (omega arith) e.1 in
      record {
        fits = record { scheme = a.0; long = eqb-true _ _ (not-false _ b.0) };
        cells = cells_fit_lem s.settings _ _ _ (not-false _ d.0);
        bytes = bytes_fit s.settings _ _ _ (not-false _ e.0);
        order = ordered false state memory (not-false _ g.0);
      }

  pub fits_read : ReadFits state memory c → order_refusal state memory c ≡ 0
  unfolding order_refusal first
  fits_read h =
      let s = state.scheme in
      rw (h.fits.scheme, eq-eqb _ _ h.fits.long, fit-cells s.settings _ _ _ h.cells, fit-bytes s.settings _ _ _ h.bytes, in_order_lem false state memory h.order)

  -- The answer, case by case.
  pub answer_order : (r : ℕ) → order_refusal state memory c ≡ r → 0 < r → answer_of state memory c ≡ Refused r 0
  unfolding answer_of
  answer_order r h p = rw (h, lt-ltb 0 r p)

  pub answer_points : order_refusal state memory c ≡ 0 → every (point_tests state.scheme state.count c) ≡ false
      → answer_of state memory c ≡ Refused 13 (first_fault (point_tests state.scheme state.count c))
  unfolding answer_of
  answer_points h p = rw (h, p)

  pub answer_blocks : order_refusal state memory c ≡ 0 → every (point_tests state.scheme state.count c) ≡ true
      → every (given_tests state.scheme (progress_of state memory) c) ≡ false
      → answer_of state memory c ≡ Refused 14 (first_fault (given_tests state.scheme (progress_of state memory) c))
  unfolding answer_of
  answer_blocks h p g = rw (h, p, g)

  pub answer_finished : order_refusal state memory c ≡ 0 → every (point_tests state.scheme state.count c) ≡ true
      → every (given_tests state.scheme (progress_of state memory) c) ≡ true
      → answer_of state memory c ≡ Finished (length (finished_frames state.scheme.settings (progress_of state memory) (rows_of state.scheme.settings c.msccells)))
  unfolding answer_of
  answer_finished h p g = rw (h, p, g)

  -- What an accepted and what a refused call yields.
  pub read_accepts : order_refusal state memory c ≡ 0 → every (point_tests state.scheme state.count c) ≡ true
      → every (given_tests state.scheme (progress_of state memory) c) ≡ true
      → read_of state memory c ≡ read_accepted state memory c
  unfolding read_of answer_number
  read_accepts h p g = rw (answer_finished h p g)

  pub read_refuses : (r b : ℕ) → answer_of state memory c ≡ Refused r b → 0 < r → read_of state memory c ≡ read_refused state memory c
  unfolding read_of answer_number
  read_refuses r b h p = rw (h, ne_eqb r 0 (λ e. omega arith))

-- A call keeps settings and table.
pub code_keeps : (state : State) (memory : List ℕ) (c : CodeCall) → (code_of state memory c).done.state.scheme ≡ state.scheme
unfolding code_of code_accepted code_refused state_of
code_keeps state memory c = go (eqb (code_refusal state memory c) 0)
  where
    go : (b : Bool) → (cond b (code_accepted state memory c) (code_refused (code_refusal state memory c) state memory c)).done.state.scheme ≡ state.scheme
    go true = refl
    go false = refl

pub read_keeps : (state : State) (memory : List ℕ) (c : ReadCall) → (read_of state memory c).reading.state.scheme ≡ state.scheme
unfolding read_of read_accepted read_refused state_of
read_keeps state memory c = go (eqb (answer_number (answer_of state memory c)) 0)
  where
    go : (b : Bool) → (cond b (read_accepted state memory c) (read_refused state memory c)).reading.state.scheme ≡ state.scheme
    go true = refl
    go false = refl
