-- The call that restores state and memory from a file. 02, S-7, and S-11: a table is "lent again to restore" a run.
use Rattle.std.specs.Prelude.{ℕ, cond, not, List, length, eqb, ltb}
use Rattle.settings.specs.Refusal.{first}
use Rattle.channels.specs.declared.Scheme.{Scheme}
use Rattle.channels.specs.Scheme.{scheme_refusal}
use Rattle.cellbytes.specs.CellBytes.{bytes}
use Rattle.superframe.specs.declared.State.{State}
use Rattle.superframe.specs.Answers.{Done}
use Rattle.superframe.specs.Call.{memory_length}
use Rattle.superframe.specs.Reset.{ResetYield}
use Rattle.holdlines.specs.declared.Form.{Form}
use Rattle.holdlines.specs.Files.{Held, held_in, valid}

-- 1 to 7; 23 a table that fails the test; 8 memory of the wrong length; 18 a file that isn't valid, its length included.
unfoldable pub restore_refusal : Form → Scheme → List ℕ → List ℕ → ℕ
restore_refusal form s file memory =
    first (ltb 0 (scheme_refusal s)) (scheme_refusal s)
    (first (not (eqb (length memory) (memory_length s.settings))) 8 (first (not (valid form s.settings file)) 18 0))

-- The state of what is held: the settings and the table from the caller, position and count from the file.
unfoldable pub held_state : Scheme → Held → State
held_state s h = record { scheme = s; position = h.position; count = h.count }

-- A restore yields what a reset does, its answer and memory.
abbrev pub restore_yield : Done → List ℕ → ResetYield
restore_yield done memory = record { done = done; memory = memory }

-- What the call yields for every input. Nothing of the old state is looked at; a refusal gives it back and leaves memory as it was.
unfoldable pub restore_of : Form → State → Scheme → List ℕ → List ℕ → ResetYield
restore_of form old s file memory =
    let h = held_in form s.settings file in
    cond (eqb (restore_refusal form s file memory) 0)
    (restore_yield (record { refusal = 0; state = held_state s h }) (bytes h.numbers))
    (restore_yield (record { refusal = restore_refusal form s file memory; state = old }) memory)
