-- Answers in one number, and the bytes of a state after a call.
use Rattle.std.specs.Prelude.{ℕ, ◌+◌, ◌*◌, cond, List, eqb}
use Rattle.superframe.specs.declared.State.{State}
use Rattle.superframe.specs.Answers.{Done}
use Rattle.superframe.specs.Answers.{Answer}
use Rattle.superframe.specs.Answers.{Finished, Refused}
use Rattle.superframe.specs.Reset.{ResetYield}
use Rattle.superframe.specs.Read.{answer_number, answer_frames, answer_block}
use Rattle.statebytes.specs.Bytes.{state_bytes}

-- The bytes of a state after Reset and Code: of the new state, or as they were where the call is refused.
unfoldable pub state_after : Done → List ℕ → List ℕ
state_after done bytes = cond (eqb done.refusal 0) (state_bytes done.state) bytes

-- An answer in one number: 256 times its number (0 for acceptance), plus its block, plus its finished frames.
unfoldable pub answer_word : Answer → ℕ
answer_word a = 256 * answer_number a + answer_block a + answer_frames a

-- The bytes of a state after Read.
unfoldable pub state_read : Answer → State → List ℕ → List ℕ
state_read (Finished n) state bytes = state_bytes state
state_read (Refused r b) state bytes = bytes

-- Answer and buffers as Reset leaves them, and restoring from a hold file.
pub record ResetBytes : Type 0 where
  pub answer : ℕ
  pub state : List ℕ
  pub memory : List ℕ

-- The same from their parts.
abbrev pub reset_yields : ℕ → List ℕ → List ℕ → ResetBytes
reset_yields answer state memory = record { answer = answer; state = state; memory = memory }

unfoldable pub reset_answered : ResetYield → List ℕ → ResetBytes
reset_answered y state = reset_yields y.done.refusal (state_after y.done state) y.memory
