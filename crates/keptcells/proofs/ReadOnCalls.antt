-- A call that reads on: refusal 0 as facts and back, and what it yields. Assumes nothing.
use Prim.Native.Nat.{ℕ, ◌<◌}
use mathlib.Core.Path.{◌≡◌}
use mathlib.Core.Bool.{true, not, ◌&&◌}
use mathlib.Core.List.{List}
use native.Mathlib.Omega.{arith}
use lib.ListN.{length}
use lib.Dec.{eqb}
use borrow.Author.Tests.{eq-eqb, ne_eqb, eqb-true, not-false}
use Rattle.lists.proofs.Bools.{and_left, and_right}
use Rattle.settings.specs.Refusal.{first}
use Rattle.channels.specs.Scheme.{scheme_refusal}
use Rattle.superframe.specs.declared.State.{State}
use Rattle.superframe.specs.Call.{memory_length, in_order}
use Rattle.superframe.specs.Code.{byte_lengths, cell_lengths}
use Rattle.keptcells.specs.ReadOn.{ReadOnCall, lost_bytes, read_on_refusal, read_on_accepted, read_on_refused, read_on_of}
use Rattle.keptcells.specs.Clauses.{ReadOnFits}
use Rattle.superframe.proofs.Calls.{first-zero, first-own, bytes_fit, fit-bytes, cells_fit_lem, fit-cells, ordered, in_order_lem}

-- Refusal 0 exactly if all the facts hold.
module _ (state : State) (memory : List ℕ) (c : ReadOnCall) where
  pub on_fits : read_on_refusal state memory c ≡ 0 → ReadOnFits state memory c
  unfolding read_on_refusal
  on_fits h =
      let s = state.scheme in
      let r = c.call in
      let bytes = byte_lengths s.settings r.fac r.sdc r.msc in
      let seven = eqb (length c.lost) lost_bytes in
      let a = first-own (scheme_refusal s) _ h in
      let b = first-zero (not (eqb (length memory) (memory_length s.settings))) 8 _ (omega arith) a.1 in
      let d = first-zero (not (cell_lengths s.settings r.faccells r.sdccells r.msccells)) 9 _ (omega arith) b.1 in
      let e = first-zero (not (bytes && seven)) 10 _ (omega arith) d.1 in
      let g = first-zero (not (in_order true state memory)) 12 0 (omega arith) e.1 in
      record {
        fits = record { scheme = a.0; long = eqb-true _ _ (not-false _ b.0) };
        cells = cells_fit_lem s.settings _ _ _ (not-false _ d.0);
        bytes = bytes_fit s.settings _ _ _ (and_left bytes seven (not-false _ e.0));
        seven = eqb-true _ _ (and_right bytes seven (not-false _ e.0));
        order = ordered true state memory (not-false _ g.0);
      }

  pub fits_on : ReadOnFits state memory c → read_on_refusal state memory c ≡ 0
  unfolding read_on_refusal first
  fits_on h =
      let s = state.scheme in
      rw (
        h.fits.scheme,
        eq-eqb _ _ h.fits.long,
        fit-cells s.settings _ _ _ h.cells,
        fit-bytes s.settings _ _ _ h.bytes,
        eq-eqb _ _ h.seven,
        in_order_lem true state memory h.order,
      )

  -- What an accepted and what a refused call yields.
  pub on_accepts : read_on_refusal state memory c ≡ 0 → read_on_of state memory c ≡ read_on_accepted state memory c.call
  unfolding read_on_of
  on_accepts h = rw (eq-eqb (read_on_refusal state memory c) 0 h)

  pub on_refuses : (r : ℕ) → read_on_refusal state memory c ≡ r → 0 < r → read_on_of state memory c ≡ read_on_refused r state memory c
  unfolding read_on_of
  on_refuses r h p = rw (ne_eqb (read_on_refusal state memory c) 0 (λ e. omega arith), h)
