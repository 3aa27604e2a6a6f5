-- The parts of a call that reads on: its refusals in order, what its blocks are lent, and what it yields. Assumes nothing.
use Prim.Native.Nat.{ℕ, ◌-◌, ◌≤◌}
use mathlib.Core.Path.{◌≡◌, refl, sym, ◌∙◌}
use mathlib.Core.Bool.{Bool, true, false, not, ◌&&◌}
use mathlib.Core.List.{List, ◌++◌, map}
use native.Mathlib.Omega.{arith}
use native.Mathlib.Nat.{sub-zero}
use lib.ListN.{length, take, length-append}
use lib.Seq.{take_at}
use lib.IntN.{ℤ}
use lib.Dec.{eqb}
use Rattle.lists.proofs.Tables.{length-table}
use Rattle.settings.specs.Refusal.{first}
use Rattle.channels.specs.declared.Scheme.{Scheme}
use Rattle.channels.proofs.Schemes.{scheme-accepted}
use Rattle.superframe.specs.declared.State.{State}
use Rattle.std.proofs.Common.{Err}
use Rattle.refusal.specs.declared.Refusal.{Refusal}
use Rattle.refusal.specs.Numbers.{number}
use Rattle.refusal.proofs.Positive.{number_positive}
use Rattle.superframe.specs.Answers.{Finished, read_done}
use Rattle.superframe.specs.Call.{in_order, memory_length}
use Rattle.superframe.specs.Code.{byte_lengths, cell_lengths}
use Rattle.keptcells.specs.ReadOn.{ReadOnCall, lost_bytes, read_on_refusal, kept_cells, lost_mark, read_on_accepted, read_on_refused, read_on_of}
use Rattle.keptcells.proofs.ReadOnCalls.{on_fits, on_accepts, on_refuses}
use Rattle.callrefusals.specs.Clauses.{refusal_then}
use Rattle.callrefusals.proofs.Chains.{then_stops, then_goes_on}
use Rattle.superframe.specs.Clauses.{read_call}
use Rattle.readblocks.specs.declared.Blocks.{Blocks}
use Rattle.readblocks.specs.Clauses.{blocks_of, BlocksLent, BlocksRead}
use Rattle.keptcells.specs.Clauses.{CellsKept, ReadOnFits}
use Rattle.readoncall.specs.Clauses.{read_on_call, read_on_yield, refusal_after}

-- Two tests of one number.
two-tests : (a b : Bool) (n m : ℕ) → first (not a) n (first (not b) n m) ≡ first (not (a && b)) n m
unfolding first
two-tests true b n m = refl
two-tests false b n m = refl

-- The front of a working buffer: what was written there.
pub front_in : {A : Type 0} (n : ℕ) (v rest : List A) → length v ≡ n → n ≤ length (v ++ rest)
front_in n v rest e = rw length-append (omega arith)

pub front_is : {A : Type 0} (n : ℕ) (v rest : List A) → length v ≡ n → take (n - 0) (v ++ rest) ≡ v
front_is n v rest e = rw sub-zero (take_at v rest n e)

-- As many numbers are kept as were received.
pub kept_long : (s : Scheme) (cells : List ℤ) → length (kept_cells s cells) ≡ length cells
unfolding kept_cells
kept_long s cells = length-table _ 0 (length cells)

-- What is known of a call that no number refuses.
module _ (state : State) (memory : List ℕ) (faccells sdccells msccells : List ℤ) (fac sdc msc : List ℕ)
    (w : BlocksLent state memory (read_call faccells sdccells msccells fac sdc msc)) where
  pub cells_most : length msccells ≤ 36712
  cells_most = omega (arith, w.cells.msclong, w.fits.allowed.settings.ranges.fillers, w.fits.allowed.settings.ranges.mux_most)

  pub cells-kept : (out : List ℤ) → length out ≡ length msccells → CellsKept state.scheme msccells out
  cells-kept out e = record { known = omega (arith, w.fits.allowed.settings.ranges.part_a.msc_low); pairs = omega (arith, w.cells.msclong); room = e }

  pub blocks_lent : (kept : List ℤ) → kept ≡ kept_cells state.scheme msccells → BlocksLent state memory (read_call faccells sdccells kept fac sdc msc)
  blocks_lent kept e =
      record {
        fits = w.fits;
        cells = record { faclong = w.cells.faclong; sdclong = w.cells.sdclong; msclong = rw e (kept_long state.scheme msccells ∙ w.cells.msclong) };
        bytes = w.bytes;
      }

-- What the blocks are goes by the cells that are kept.
pub blocks_kept : (state : State) (memory : List ℕ) (faccells sdccells kept kept' : List ℤ) (fac sdc msc : List ℕ) → kept ≡ kept'
    → (r : Blocks) (memory'' fac'' sdc'' msc'' : List ℕ) → BlocksRead state memory (read_call faccells sdccells kept fac sdc msc) r memory'' fac'' sdc'' msc''
    → BlocksRead state memory (read_call faccells sdccells kept' fac sdc msc) r memory'' fac'' sdc'' msc''
blocks_kept state memory faccells sdccells kept kept' fac sdc msc e r memory'' fac'' sdc'' msc'' B = rw e at B

-- A refused and an accepted call, by the refusal of the lengths and by what follows it.
module _ (state : State) (memory : List ℕ) (faccells sdccells msccells : List ℤ) (fac sdc msc lost : List ℕ) where
  abbrev call : ReadOnCall
  call = read_on_call faccells sdccells msccells fac sdc msc lost

  abbrev lengths : ℕ → ℕ
  lengths m = refusal_then state.scheme memory (cell_lengths state.scheme.settings faccells sdccells msccells) (byte_lengths state.scheme.settings fac sdc msc) m

  order_is : lengths (refusal_after state memory lost) ≡ read_on_refusal state memory call
  unfolding read_on_refusal refusal_then refusal_after
  order_is = rw (two-tests (byte_lengths state.scheme.settings fac sdc msc) (eqb (length lost) lost_bytes) 10 (first (not (in_order true state memory)) 12 0))

  refused_is : (r : Refusal) → number r ≡ read_on_refusal state memory call
      → read_on_yield (read_done state (Err (record { refusal = r; block = 0 }))) memory fac sdc msc lost ≡ read_on_of state memory call
  unfolding read_on_refused
  refused_is r e = sym (on_refuses state memory _ (number r) (sym e) (number_positive r))

  pub refused_early : (r : Refusal) → number r ≡ lengths 0
      → read_on_yield (read_done state (Err (record { refusal = r; block = 0 }))) memory fac sdc msc lost ≡ read_on_of state memory call
  refused_early r e = refused_is r (then_stops _ _ _ _ _ e _ (λ h. absurd (omega (arith, number_positive r, h))) ∙ order_is)

  module _ (g : 0 ≡ lengths 0) where
    after_is : (n : ℕ) → n ≡ refusal_after state memory lost → n ≡ read_on_refusal state memory call
    after_is n e = e ∙ sym (then_goes_on _ _ _ _ 0 g _ refl) ∙ order_is

    pub refused_late : (r : Refusal) → number r ≡ refusal_after state memory lost
        → read_on_yield (read_done state (Err (record { refusal = r; block = 0 }))) memory fac sdc msc lost ≡ read_on_of state memory call
    refused_late r e = refused_is r (after_is (number r) e)

    module _ (e : 0 ≡ refusal_after state memory lost) where
      fits : ReadOnFits state memory call
      fits = on_fits state memory _ (sym (after_is 0 e))

      pub accepted_seven : length lost ≡ lost_bytes
      accepted_seven = fits.seven

      pub accepted-lent : BlocksLent state memory (read_call faccells sdccells msccells fac sdc msc)
      unfolding memory_length
      accepted-lent =
          record {
            fits = record { allowed = scheme-accepted _ fits.fits.scheme; position = fits.order.position; count = fits.order.count; slots = fits.fits.long };
            cells = fits.cells;
            bytes = fits.bytes;
          }

      pub accepted_is : (b : Blocks) (memory'' fac'' sdc'' msc'' lost'' : List ℕ)
          → BlocksRead state memory (read_call faccells sdccells (kept_cells state.scheme msccells) fac sdc msc) b memory'' fac'' sdc'' msc''
          → lost'' ≡ map lost_mark b.given
          → read_on_yield (record { answer = Finished b.finished; state = b.after }) memory'' fac'' sdc'' msc'' lost'' ≡ read_on_of state memory call
      unfolding read_on_accepted blocks_of
      accepted_is b memory'' fac'' sdc'' msc'' lost'' B l =
          rw (l, B.blocks, B.held, B.fac, B.sdc, B.msc) (sym (on_accepts state memory call (sym (after_is 0 e))))
