-- S-7 of runs: storing and restoring give back the state and memory of a run, and what follows is what follows them. Assumes nothing.
use Prim.Native.Nat.{ℕ}
use mathlib.Core.Path.{◌≡◌, refl, sym, ap, subst, ◌∙◌}
use mathlib.Core.Bool.{Bool, true, false, cond}
use mathlib.Core.List.{List, [], ◌∷◌, ◌++◌}
use borrow.Author.Tests.{eq-eqb}
use lib.ListN.{length}
use lib.Dec.{eqb}
use Rattle.superframe.specs.declared.State.{State}
use Rattle.superframe.specs.Call.{memory_length}
use Rattle.superframe.specs.Code.{CodeCall, code_of}
use Rattle.superframe.specs.Clauses.{Fits}
use Rattle.superframe.specs.Runs.{call_yields, state_after, memory_after, Run, cells, state_now, memory_now}
use Rattle.superframe.proofs.CodeRuns.{Standing}
use Rattle.superframe.proofs.Runs.{run_stands}
use Rattle.superframe.proofs.Accepted.{coding}
use Rattle.superframe.proofs.Moments.{state_on_lem, memory_on_lem, refusals_on, sent_on}
use Rattle.holdlines.specs.declared.Form.{Form}
use Rattle.holdlines.specs.Files.{file_length}
use Rattle.holdfile.specs.Convert.{convert_yield}
use Rattle.holdcalls.specs.Store.{store_of}
use Rattle.holdcalls.specs.Restore.{restore_yield, restore_of}
use Rattle.holdcalls.specs.HeldRuns.{gone_on, restored, GoesOn, HeldRuns}
use Rattle.holdcalls.proofs.StoredBack.{store_answers, restores_of}
use Rattle.holdcalls.proofs.MemoryBytes.{run_low}

-- What later calls yield is what they yield from the state and memory that the earlier ones leave.
yields_on : (state : State) (memory : List ℕ) (calls later : List CodeCall)
    → call_yields state memory (calls ++ later) ≡ call_yields state memory calls ++ call_yields (state_after state memory calls) (memory_after state memory calls) later
unfolding state_after memory_after call_yields
yields_on state memory [] later = refl
yields_on state memory (c ∷ calls) later =
    let y = code_of state memory c in
    ap (λ l. y ∷ l) (yields_on y.done.state y.memory calls later)

-- The answer of one of two yields.
told : (b : Bool) (y z : List ℕ) → (cond b (convert_yield 0 y) (convert_yield 10 z)).answer ≡ cond b 0 10
told true y z = refl
told false y z = refl

module _ (run : Run) where
  stands : Standing run.begun.scheme (state_now run) (memory_now run)
  stands = run_stands coding run

  fits_now : Fits (state_now run).scheme (memory_now run)
  fits_now = subst (λ s. Fits s (memory_now run)) (sym stands.scheme) stands.fits

  stores_by_room : (form : Form) (room : List ℕ)
      → (store_of form (state_now run) (memory_now run) room).answer ≡ cond (eqb (length room) (file_length form run.begun.scheme.settings)) 0 10
  stores_by_room form room =
      ap (λ y. y.answer) (store_answers (state_now run) (memory_now run) fits_now stands.order form room)
      ∙ told (eqb (length room) (file_length form (state_now run).scheme.settings)) _ _
      ∙ ap (λ t. cond (eqb (length room) (file_length form t.settings)) 0 10) stands.scheme

  from_now : (later : List CodeCall) → GoesOn run (restore_yield (record { refusal = 0; state = state_now run }) (memory_now run)) later
  unfolding state_now memory_now cells gone_on
  from_now later =
      record {
        yields = yields_on _ _ run.calls later;
        answers = refusals_on _ _ run.calls later;
        state = state_on_lem _ _ run.calls later;
        memory = memory_on_lem _ _ run.calls later;
        sends = sent_on _ _ run.calls later;
      }

  module _ (form : Form) (room : List ℕ) (old : State) (lent : List ℕ) (h : length room ≡ file_length form run.begun.scheme.settings)
      (l : length lent ≡ memory_length run.begun.scheme.settings) where
    accepted : (store_of form (state_now run) (memory_now run) room).answer ≡ 0
    accepted = stores_by_room form room ∙ rw (eq-eqb (length room) (file_length form run.begun.scheme.settings) h)

    -- State and memory come back,
    comes_back : restored form run room old lent ≡ restore_yield (record { refusal = 0; state = state_now run }) (memory_now run)
    unfolding restored
    comes_back =
        ap (λ s. restore_of form old s (store_of form (state_now run) (memory_now run) room).out lent) (sym stands.scheme)
        ∙ restores_of form (state_now run) (memory_now run) room (run_low run) accepted old lent
        (l ∙ ap (λ s. memory_length s.settings) (sym stands.scheme))

    -- and what follows them follows.
    goes_on_lem : (later : List CodeCall) → GoesOn run (restored form run room old lent) later
    goes_on_lem later = subst (λ y. GoesOn run y later) (sym comes_back) (from_now later)

-- S-7 of runs.
pub held_runs : HeldRuns
held_runs =
    record {
      stores = λ form run room. stores_by_room run form room;
      restores = λ form run room old lent h l. comes_back run form room old lent h l;
      goes_on = λ form run room old lent h l later. goes_on_lem run form room old lent h l later;
    }
