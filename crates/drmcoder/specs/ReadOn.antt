-- What drm_read_on yields, by the call on states. 02, S-13.
use Rattle.std.specs.Prelude.{ℕ, ◌*◌, cond, List, length, eqb}
use Rattle.keptcells.specs.ReadOn.{ReadOnCall, ReadOnYield, read_on_of}
use Rattle.statebytes.specs.Bytes.{state_of}
use Rattle.drmcoder.specs.Calls.{ReadBytes, read_yields, read_answered}

-- Answer and buffers as the call leaves them: what drm_read leaves, and the bytes that tell what is lost.
pub record ReadOnBytes : Type 0 where
  pub read : ReadBytes
  pub lost : List ℕ

-- The same from their parts.
abbrev pub read_on_yields : ℕ → List ℕ → List ℕ → List ℕ → List ℕ → List ℕ → List ℕ → ReadOnBytes
read_on_yields answer state memory fac sdc msc lost = record { read = read_yields answer state memory fac sdc msc; lost = lost }

-- A state of the wrong length: 255 times 256, and nothing is written.
unfoldable pub read_on_answered : ReadOnYield → List ℕ → ReadOnBytes
read_on_answered y state = record { read = read_answered y.yield state; lost = y.lost }

unfoldable pub read_on_bytes : List ℕ → List ℕ → ReadOnCall → ReadOnBytes
read_on_bytes state memory c =
    cond (eqb (length state) 208) (read_on_answered (read_on_of (state_of state) memory c) state)
    (read_on_yields (256 * 255) state memory c.call.fac c.call.sdc c.call.msc c.lost)
