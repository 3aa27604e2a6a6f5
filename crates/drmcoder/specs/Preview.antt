-- What drm_preview yields, by the preview of a state. 02 S-3.
use Rattle.std.specs.Prelude.{ℕ, cond, ◌&&◌, List, length, ℤ, eqb}
use Rattle.superframe.specs.Code.{CodeCall}
use Rattle.previewcall.specs.Preview.{PreviewYield, preview_of}
use Rattle.statebytes.specs.Bytes.{state_of}
use Rattle.statebytes.specs.Answers.{state_after}

-- The answer, and the buffers as the call leaves them; state, memory and inputs are only read.
pub record PreviewBytes : Type 0 where
  pub answer : ℕ
  pub faccells : List ℤ
  pub sdccells : List ℤ
  pub msccells : List ℤ
  pub next : List ℕ

-- The same from its parts.
abbrev pub preview_yields : ℕ → List ℤ → List ℤ → List ℤ → List ℕ → PreviewBytes
preview_yields answer faccells sdccells msccells next =
    record { answer = answer; faccells = faccells; sdccells = sdccells; msccells = msccells; next = next }

-- The next state's bytes are written with answer 0 only.
unfoldable pub preview_answered : PreviewYield → List ℕ → PreviewBytes
preview_answered y next =
    preview_yields y.done.refusal y.faccells y.sdccells y.msccells (state_after y.done next)

-- A state or a next state of the wrong length: 255, and nothing is written.
unfoldable pub preview_bytes : List ℕ → List ℕ → CodeCall → List ℕ → PreviewBytes
preview_bytes state memory c next =
    cond (eqb (length state) 208 && eqb (length next) 208)
    (preview_answered (preview_of (state_of state) memory c) next)
    (preview_yields 255 c.faccells c.sdccells c.msccells next)
