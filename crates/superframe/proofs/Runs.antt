-- Runs of Code calls from an accepted Reset: they bring whole super frames of bits, send the standard's cells, and are refused by 9, 10 or 11 only. Assumes the coding of allowed settings.
use Prim.Native.Nat.{ℕ, ◌<◌}
use mathlib.Core.Path.{◌≡◌, refl, sym, ap, ap₂, ◌∙◌, subst}
use mathlib.Core.Bool.{true}
use mathlib.Core.List.{List, map}
use native.Mathlib.Decide.{ℕ_discrete}
use native.Mathlib.Omega.{arith}
use lib.ListN.{length, get_or}
use lib.IntN.{ℤ}
use Rattle.lists.specs.Lists.{table}
use Rattle.lists.proofs.Tables.{length-table, get_or-table}
use Rattle.channels.specs.declared.Scheme.{Scheme}
use Rattle.channels.specs.Scheme.{scheme_refusal}
use Rattle.lists.specs.Bools.{every}
use Rattle.superframe.specs.Interleaving.{Progress}
use Rattle.superframe.specs.Reset.{reset_refusal, start_state, start_memory}
use Rattle.superframe.specs.Code.{state_of}
use Rattle.superframe.specs.Runs.{Begun, state_at, memory_at, Bits, brought, sent, refusals, state_after, memory_after, SuperFrame, Run, bits, cells, state_now, memory_now}
use Rattle.superframe.specs.Standard.{super_frame, standard}
use Rattle.superframe.specs.WholeRuns.{standard_cells, run_number}
use Rattle.superframe.proofs.Coding.{Coding}
use Rattle.superframe.proofs.History.{frame_at, Keeps, keeps_start}
use Rattle.superframe.proofs.Coder.{stored_age}
use Rattle.superframe.proofs.Calls.{reset_fits, reset_accepts, reset_refuses}
use Rattle.superframe.proofs.CodeRuns.{Standing, Whole, Ahead, brought-whole, all_coded}

-- Memory, position and count after an accepted Reset.
unfoldable pub start_of : Scheme → Progress
start_of s = record { memory = start_memory s; position = 0; count = 0 }

module _ (b : Begun) where
  begun-zero : reset_refusal b.scheme b.lent ≡ 0
  begun-zero =
      elim (ℕ_discrete (reset_refusal b.scheme b.lent) 0) [
        | yes h ↦ h
        | no h ↦ sym (ap (λ y. y.done.refusal) (reset_refuses b.old b.scheme b.lent _ refl (omega arith))) ∙ b.accepted
      ]

  pub begun_allowed : scheme_refusal b.scheme ≡ 0
  begun_allowed = (reset_fits b.old b.scheme b.lent begun-zero).scheme

  pub begun-state : state_at b ≡ state_of b.scheme (start_of b.scheme)
  unfolding state_at state_of start_of start_state
  begun-state = ap (λ y. y.done.state) (reset_accepts b.old b.scheme b.lent begun-zero)

  pub begun_memory : memory_at b ≡ (start_of b.scheme).memory
  unfolding memory_at start_of
  begun_memory = ap (λ y. y.memory) (reset_accepts b.old b.scheme b.lent begun-zero)

-- No super frame has been read: all bits are ahead.
all_ahead : (B : Bits) → Ahead B 0 B
all_ahead B = record { fac = refl; sdc = refl; frames = refl }

module _ (coding : (s : Scheme) → scheme_refusal s ≡ 0 → Coding s) where
  -- The coding of a run's settings.
  pub coded_by : (b : Begun) → Coding b.scheme
  coded_by b = coding b.scheme (begun_allowed b)

  pub begun_keeps : (b : Begun) (G : ℕ → List ℤ) (a : ℕ → ℕ → ℕ) → Keeps b.scheme G a 0 (start_of b.scheme)
  unfolding start_of
  begun_keeps b G a = keeps_start b.scheme (coded_by b) G a

  module _ (run : Run) where
    bits_are : bits run ≡ brought (state_of run.begun.scheme (start_of run.begun.scheme)) (start_of run.begun.scheme).memory run.calls
    unfolding bits
    bits_are = ap₂ (λ st me. brought st me run.calls) (begun-state run.begun) (begun_memory run.begun)

    -- A run brings whole super frames of bits.
    pub bits-whole : Whole run.begun.scheme (bits run)
    bits-whole = rw bits_are (brought-whole run.begun.scheme run.calls (start_of run.begun.scheme))

    ahead : Ahead (bits run) 0 (brought (state_of run.begun.scheme (start_of run.begun.scheme)) (start_of run.begun.scheme).memory run.calls)
    ahead = subst (Ahead (bits run) 0) bits_are (all_ahead (bits run))

    coded_run : (sent (state_of run.begun.scheme (start_of run.begun.scheme)) (start_of run.begun.scheme).memory run.calls
        ≡ table (super_frame run.begun.scheme (bits run)) 0
        (length (brought (state_of run.begun.scheme (start_of run.begun.scheme)) (start_of run.begun.scheme).memory run.calls).sdc))
        × (every (map run_number (refusals (state_of run.begun.scheme (start_of run.begun.scheme)) (start_of run.begun.scheme).memory run.calls)) ≡ true)
        × Standing run.begun.scheme (state_after (state_of run.begun.scheme (start_of run.begun.scheme)) (start_of run.begun.scheme).memory run.calls)
        (memory_after (state_of run.begun.scheme (start_of run.begun.scheme)) (start_of run.begun.scheme).memory run.calls)
    coded_run =
        all_coded run.begun.scheme (coded_by run.begun) (begun_allowed run.begun) (bits run) bits-whole run.calls (start_of run.begun.scheme) 0
        (begun_keeps run.begun (frame_at run.begun.scheme (bits run).frames) stored_age) (omega arith) ahead

    -- The cells sent are the standard's.
    pub run_sends : cells run ≡ standard_cells run
    unfolding cells standard_cells standard
    run_sends =
        ap₂ (λ st me. sent st me run.calls) (begun-state run.begun) (begun_memory run.begun)
        ∙ coded_run.0
        ∙ ap (λ b. table (super_frame run.begun.scheme (bits run)) 0 (length b.sdc)) (sym bits_are)

    -- Super frame m of them.
    pub sent_frame : (m : ℕ) (z : SuperFrame) → m < length (bits run).sdc → get_or (cells run) m z ≡ super_frame run.begun.scheme (bits run) m
    unfolding standard_cells standard
    sent_frame m z low =
        ap (λ l. get_or l m z) run_sends
        ∙ get_or-table z (super_frame run.begun.scheme (bits run)) (length (bits run).sdc) m low

    pub sent_long : length (cells run) ≡ length (bits run).sdc
    unfolding standard_cells standard
    sent_long = ap length run_sends ∙ length-table _ 0 (length (bits run).sdc)

    -- A call of a run is refused by 9, 10 or 11 only.
    pub run_refuses : every (map run_number (refusals (state_at run.begun) (memory_at run.begun) run.calls)) ≡ true
    run_refuses = rw (begun-state run.begun, begun_memory run.begun) coded_run.1

    -- At every moment of a run neither its state nor its memory is refused.
    pub run_stands : Standing run.begun.scheme (state_now run) (memory_now run)
    unfolding state_now memory_now
    run_stands = rw (begun-state run.begun, begun_memory run.begun) coded_run.2
