-- The memory of a run is bytes. Assumes nothing.
use Prim.Native.Nat.{ℕ, suc, ◌<◌}
use mathlib.Core.Path.{refl}
use mathlib.Core.Logic.{inl, inr}
use mathlib.Core.List.{List, [], ◌∷◌}
use native.Mathlib.Decide.{ℕ_discrete}
use native.Mathlib.Omega.{arith}
use lib.ListN.{length, get_or, set, length-set, get_or-eq_default}
use lib.Seq.{sets, get_or-set_same, get_or-set_other}
use lib.IntN.{ℤ}
use Rattle.lists.proofs.Counting.{below_or}
use Rattle.settings.specs.declared.Settings.{Settings}
use Rattle.settings.specs.Sizes.{depth}
use Rattle.cellbytes.specs.CellBytes.{bytes}
use Rattle.cellbytes.specs.Clauses.{AllBytes}
use Rattle.cellbytes.proofs.CellBytes.{bytes_low}
use Rattle.superframe.specs.declared.State.{State}
use Rattle.superframe.specs.Memory.{slot_size, stored}
use Rattle.superframe.specs.Interleaving.{Progress, advanced, after_frames}
use Rattle.superframe.specs.Reset.{start_memory}
use Rattle.superframe.specs.Code.{CodeCall, code_refusal, code_accepted, code_refused, code_of, progress_of}
use Rattle.superframe.specs.Runs.{memory_after, Run, memory_now}
use Rattle.superframe.proofs.Calls.{code_accepts, code_refuses}
use Rattle.superframe.proofs.Runs.{start_of, begun_memory}

-- Bytes with a byte set, and with bytes set from a place on.
set_low : (l : List ℕ) (i a : ℕ) → a < 256 → AllBytes l → AllBytes (set l i a)
set_low l i a h b = record { low = λ j. at j }
  where
    at : (j : ℕ) → get_or (set l i a) j 0 < 256
    at j =
        elim (ℕ_discrete j i) [
          | no n ↦ rw (get_or-set_other l i j a 0 n) (b.low j)
          | yes e ↦ elim (below_or i (length l)) [
            | inl m ↦ rw (e, get_or-set_same l i a 0 m) h
            | inr m ↦ rw (get_or-eq_default (set l i a) 0 {n = j} (rw length-set (omega arith))) (omega arith)
          ]
        ]

sets_low : (vs l : List ℕ) (i : ℕ) → AllBytes vs → AllBytes l → AllBytes (sets l i vs)
sets_low [] l i v b = b
sets_low (a ∷ vs) l i v b = sets_low vs (set l i a) (suc i) (record { low = λ j. v.low (suc j) }) (set_low l i a (v.low 0) b)

frames_low : (s : Settings) (q : Progress) (fs : List (List ℤ)) → AllBytes q.memory → AllBytes (after_frames s q fs).memory
unfolding after_frames advanced stored
frames_low s q [] b = b
frames_low s q (f ∷ fs) b = frames_low s (advanced (depth s) (stored (slot_size s) q.memory q.position f) q) fs (sets_low (bytes f) q.memory _ (bytes_low f) b)

-- A call of a run keeps memory bytes,
call_low : (state : State) (memory : List ℕ) (c : CodeCall) → AllBytes memory → AllBytes (code_of state memory c).memory
unfolding code_accepted code_refused progress_of
call_low state memory c b =
    elim (ℕ_discrete (code_refusal state memory c) 0) [
      | yes h ↦ rw (code_accepts state memory c h) (frames_low _ _ _ b)
      | no h ↦ rw (code_refuses state memory c _ refl (omega arith)) b
    ]

after_low : (state : State) (memory : List ℕ) (cs : List CodeCall) → AllBytes memory → AllBytes (memory_after state memory cs)
unfolding memory_after
after_low state memory [] b = b
after_low state memory (c ∷ cs) b = after_low (code_of state memory c).done.state (code_of state memory c).memory cs (call_low state memory c b)

-- and Reset fills it with bytes.
pub run_low : (run : Run) → AllBytes (memory_now run)
unfolding memory_now start_of start_memory
run_low run = after_low _ _ run.calls (rw (begun_memory run.begun) (bytes_low _))
