-- The call preview: what Code would give on a copy of the memory. 02 S-3.
use Rattle.std.specs.Prelude.{ℕ, List, ℤ}
use Rattle.superframe.specs.declared.State.{State}
use Rattle.superframe.specs.Answers.{Done}
use Rattle.superframe.specs.Code.{CodeCall, CodeYield, code_of}

-- All that a preview yields: its answer, and the outputs as it leaves them. It is lent Code's inputs and outputs, and memory to be read only.
pub record PreviewYield : Type 0 where
  pub done : Done
  pub faccells : List ℤ
  pub sdccells : List ℤ
  pub msccells : List ℤ

-- What Code yields, without the copy of the memory that it leaves.
unfoldable pub without_memory : CodeYield → PreviewYield
without_memory y = record { done = y.done; faccells = y.faccells; sdccells = y.sdccells; msccells = y.msccells }

-- What a preview yields, for every input; a refusal leaves the outputs and gives the state handed in, as in Code.
unfoldable pub preview_of : State → List ℕ → CodeCall → PreviewYield
preview_of state memory c = without_memory (code_of state memory c)
