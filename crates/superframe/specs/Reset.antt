-- The call Reset. 01 "Operations".
use Rattle.std.specs.Prelude.{ℕ, not, cond, List, length, replicate, eqb, ltb}
use Rattle.cellbytes.specs.CellBytes.{bytes}
use Rattle.settings.specs.Refusal.{first}
use Rattle.settings.specs.Sizes.{depth}
use Rattle.channels.specs.declared.Scheme.{Scheme}
use Rattle.channels.specs.Scheme.{scheme_refusal}
use Rattle.superframe.specs.declared.State.{State}
use Rattle.superframe.specs.Answers.{Done}
use Rattle.superframe.specs.Memory.{start_frame}
use Rattle.superframe.specs.Call.{memory_length, joined}

-- All that a reset yields: its answer, and memory as it leaves it.
pub record ResetYield : Type 0 where
  pub done : Done
  pub memory : List ℕ

-- Reset: 1 to 7; 23 a table that fails the test; 8 memory of the wrong length.
unfoldable pub reset_refusal : Scheme → List ℕ → ℕ
reset_refusal s memory =
    first (ltb 0 (scheme_refusal s)) (scheme_refusal s) (first (not (eqb (length memory) (memory_length s.settings))) 8 0)

-- The state after an accepted reset: the settings and the table, position 0 and count 0.
unfoldable pub start_state : Scheme → State
start_state s = record { scheme = s; position = 0; count = 0 }

-- Memory after an accepted reset: a start frame in every slot.
unfoldable pub start_memory : Scheme → List ℕ
start_memory s = bytes (joined (replicate (depth s.settings) (start_frame s)))

-- Acceptance fills memory, takes the settings and the table and sets position and count to 0; a refusal gives the old state back.
unfoldable pub reset_of : State → Scheme → List ℕ → ResetYield
reset_of old s memory =
    cond (eqb (reset_refusal s memory) 0)
    (record { done = record { refusal = 0; state = start_state s }; memory = start_memory s })
    (record { done = record { refusal = reset_refusal s memory; state = old }; memory = memory })
