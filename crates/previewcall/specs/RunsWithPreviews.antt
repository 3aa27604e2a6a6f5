-- Runs with previews in between: they send the cells of the same run without them. 02 S-3.
use Rattle.std.specs.Prelude.{ℕ, ◌≡◌, cond, List, [], ◌∷◌, ◌++◌, eqb}
use Rattle.superframe.specs.declared.State.{State}
use Rattle.superframe.specs.Code.{CodeCall, CodeYield, code_of}
use Rattle.previewcall.specs.Preview.{PreviewYield, preview_of}
use Rattle.superframe.specs.Runs.{Begun, state_at, memory_at, call_yields, SuperFrame, Run, cells, state_now, memory_now}
use Rattle.superframe.specs.WholeRuns.{standard_cells}

-- A Code call or a preview, with any inputs.
pub data Event : Type 0 where
  coding : CodeCall → Event
  showing : CodeCall → Event

-- What each yields.
pub data Outcome : Type 0 where
  coded : CodeYield → Outcome
  shown : PreviewYield → Outcome

-- What the events of a list yield, refused ones included: a Code call hands on its state and memory; a preview's state is not handed on, and memory stays as it was.
unfoldable pub outcomes : State → List ℕ → List Event → List Outcome
outcomes state memory [] = []
outcomes state memory (coding c ∷ es) =
    let y = code_of state memory c in
    coded y ∷ outcomes y.done.state y.memory es
outcomes state memory (showing c ∷ es) = shown (preview_of state memory c) ∷ outcomes state memory es

-- The answers, states, memories and outputs of the Code calls among them.
unfoldable pub yields : List Outcome → List CodeYield
yields [] = []
yields (coded y ∷ os) = y ∷ yields os
yields (shown y ∷ os) = yields os

-- The cells that the accepted ones of Code calls send.
unfoldable pub sent_by : List CodeYield → List SuperFrame
sent_by [] = []
sent_by (y ∷ ys) =
    cond (eqb y.done.refusal 0) (record { fac = y.faccells; sdc = y.sdccells; msc = y.msccells } ∷ sent_by ys) (sent_by ys)

-- The Code calls of a list of events: the previews left out.
unfoldable pub codings : List Event → List CodeCall
codings [] = []
codings (coding c ∷ es) = c ∷ codings es
codings (showing c ∷ es) = codings es

-- The run without its previews: an accepted Reset, and the Code calls of a list of events.
unfoldable pub without_previews : Begun → List Event → Run
without_previews b es = record { begun = b; calls = codings es }

-- What the events of a list yield from an accepted Reset on.
unfoldable pub from_reset : Begun → List Event → List Outcome
from_reset b es = outcomes (state_at b) (memory_at b) es

-- S-3, for all lists of events from an accepted Reset.
pub record RunsWithPreviews : Type 0 where
  -- Answers, states, memories and outputs of the Code calls are those of the list with the previews left out.
  pub codes : (b : Begun) (es : List Event) → yields (from_reset b es) ≡ call_yields (state_at b) (memory_at b) (codings es)
  -- The cells sent are those of the same run without the previews,
  pub sends : (b : Begun) (es : List Event) → sent_by (yields (from_reset b es)) ≡ cells (without_previews b es)
  -- and so the standard's.
  pub standard : (b : Begun) (es : List Event) → sent_by (yields (from_reset b es)) ≡ standard_cells (without_previews b es)
  -- A preview at any moment shows what the next Code call of that run would yield on the same inputs.
  pub shows : (b : Begun) (es : List Event) (c : CodeCall)
      → from_reset b (es ++ showing c ∷ []) ≡ from_reset b es ++ shown (preview_of (state_now (without_previews b es)) (memory_now (without_previews b es)) c) ∷ []
