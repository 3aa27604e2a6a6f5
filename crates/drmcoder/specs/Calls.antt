-- What drm_reset, drm_reset_table, drm_code and drm_read yield, by the calls on states.
use Rattle.std.specs.Prelude.{ℕ, ◌*◌, cond, ◌&&◌, List, length, ℤ, eqb}
use Rattle.channels.specs.Scheme.{scheme_of}
use Rattle.superframe.specs.Reset.{reset_of}
use Rattle.superframe.specs.Code.{CodeCall, CodeYield, code_of}
use Rattle.superframe.specs.Read.{ReadCall, ReadYield, read_of}
use Rattle.statebytes.specs.Answers.{state_after, answer_word, state_read, ResetBytes, reset_yields, reset_answered}
use Rattle.statebytes.specs.Bytes.{settings_of, state_of}

-- Answers and buffers as each call leaves them.
pub record CodeBytes : Type 0 where
  pub answer : ℕ
  pub state : List ℕ
  pub memory : List ℕ
  pub faccells : List ℤ
  pub sdccells : List ℤ
  pub msccells : List ℤ

pub record ReadBytes : Type 0 where
  pub answer : ℕ
  pub state : List ℕ
  pub memory : List ℕ
  pub fac : List ℕ
  pub sdc : List ℕ
  pub msc : List ℕ

-- The same from their parts.
abbrev pub code_yields : ℕ → List ℕ → List ℕ → List ℤ → List ℤ → List ℤ → CodeBytes
code_yields answer state memory faccells sdccells msccells =
    record { answer = answer; state = state; memory = memory; faccells = faccells; sdccells = sdccells; msccells = msccells }

abbrev pub read_yields : ℕ → List ℕ → List ℕ → List ℕ → List ℕ → List ℕ → ReadBytes
read_yields answer state memory fac sdc msc =
    record { answer = answer; state = state; memory = memory; fac = fac; sdc = sdc; msc = msc }

-- Reset with a table, which drm_reset takes from the standard. A state or settings of the wrong length: 255, and nothing is written.
unfoldable pub reset_bytes : List ℕ → List ℕ → List ℕ → List ℕ → ResetBytes
reset_bytes state settings table memory =
    cond (eqb (length state) 208 && eqb (length settings) 10)
    (reset_answered (reset_of (state_of state) (scheme_of (settings_of settings) table) memory) state)
    (reset_yields 255 state memory)

-- Code. A state of the wrong length: 255, and nothing is written.
unfoldable pub code_answered : CodeYield → List ℕ → CodeBytes
code_answered y state =
    code_yields y.done.refusal (state_after y.done state) y.memory y.faccells y.sdccells y.msccells

unfoldable pub code_bytes : List ℕ → List ℕ → CodeCall → CodeBytes
code_bytes state memory c =
    cond (eqb (length state) 208) (code_answered (code_of (state_of state) memory c) state)
    (code_yields 255 state memory c.faccells c.sdccells c.msccells)

-- Read. A state of the wrong length: 255 times 256, and nothing is written.
unfoldable pub read_answered : ReadYield → List ℕ → ReadBytes
read_answered y state =
    read_yields (answer_word y.reading.answer) (state_read y.reading.answer y.reading.state state)
    y.memory y.fac y.sdc y.msc

unfoldable pub read_bytes : List ℕ → List ℕ → ReadCall → ReadBytes
read_bytes state memory c =
    cond (eqb (length state) 208) (read_answered (read_of (state_of state) memory c) state)
    (read_yields (256 * 255) state memory c.fac c.sdc c.msc)
