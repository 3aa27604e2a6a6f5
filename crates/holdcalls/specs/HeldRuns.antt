-- S-7 of runs: "a run restored from either, with the settings it was stored under, sends the cells of an uninterrupted run, counted from the moment that was stored". 02 S-7.
use Rattle.std.specs.Prelude.{ℕ, ◌≡◌, cond, List, ◌++◌, length, eqb}
use Rattle.superframe.specs.declared.State.{State}
use Rattle.superframe.specs.Call.{memory_length}
use Rattle.superframe.specs.Code.{CodeCall}
use Rattle.superframe.specs.Reset.{ResetYield}
use Rattle.superframe.specs.Runs.{call_yields, state_at, memory_at, sent, refusals, state_after, memory_after, Run, cells, state_now, memory_now}
use Rattle.holdlines.specs.declared.Form.{Form}
use Rattle.holdlines.specs.Files.{file_length}
use Rattle.holdcalls.specs.Store.{store_of}
use Rattle.holdcalls.specs.Restore.{restore_yield, restore_of}

-- The run that is not interrupted: the same calls, and later ones.
unfoldable pub gone_on : Run → List CodeCall → Run
gone_on run later = record { begun = run.begun; calls = run.calls ++ later }

-- What restoring yields from the file that a run's state and memory are stored in at the moment after its last call, under its settings and table;
-- whatever the file's room, the old state and the lent memory held.
unfoldable pub restored : Form → Run → List ℕ → State → List ℕ → ResetYield
restored form run room old lent =
    restore_of form old run.begun.scheme (store_of form (state_now run) (memory_now run) room).out lent

-- Later calls from a restored state and memory do what they do in the run that is not interrupted: each one's answer, state, memory and outputs,
-- the state and memory after them, and the cells sent.
pub record GoesOn (run : Run) (y : ResetYield) (later : List CodeCall) : Type 0 where
  pub yields : call_yields (state_at run.begun) (memory_at run.begun) (run.calls ++ later)
      ≡ call_yields (state_at run.begun) (memory_at run.begun) run.calls ++ call_yields y.done.state y.memory later
  pub answers : refusals (state_at run.begun) (memory_at run.begun) (run.calls ++ later)
      ≡ refusals (state_at run.begun) (memory_at run.begun) run.calls ++ refusals y.done.state y.memory later
  pub state : state_now (gone_on run later) ≡ state_after y.done.state y.memory later
  pub memory : memory_now (gone_on run later) ≡ memory_after y.done.state y.memory later
  pub sends : cells (gone_on run later) ≡ cells run ++ sent y.done.state y.memory later

-- For every run, that is at every moment of one, and both forms.
pub record HeldRuns : Type 0 where
  -- Storing is refused by 10 only, which is room of another length than the form's file.
  pub stores : (form : Form) (run : Run) (room : List ℕ)
      → (store_of form (state_now run) (memory_now run) room).answer ≡ cond (eqb (length room) (file_length form run.begun.scheme.settings)) 0 10
  -- Restoring gives the run's state and memory back,
  pub restores : (form : Form) (run : Run) (room : List ℕ) (old : State) (lent : List ℕ)
      → length room ≡ file_length form run.begun.scheme.settings
      → length lent ≡ memory_length run.begun.scheme.settings
      → restored form run room old lent ≡ restore_yield (record { refusal = 0; state = state_now run }) (memory_now run)
  -- and for every later list of Code calls, refused ones included, the run goes on as if it had not been interrupted.
  pub goes_on : (form : Form) (run : Run) (room : List ℕ) (old : State) (lent : List ℕ)
      → length room ≡ file_length form run.begun.scheme.settings
      → length lent ≡ memory_length run.begun.scheme.settings
      → (later : List CodeCall)
      → GoesOn run (restored form run room old lent) later
