-- Runs of calls: what a list of Code calls brings and sends, and what a list of Read calls is fed and hands out. 01 "Runs".
use Rattle.std.specs.Prelude.{ℕ, suc, ◌-◌, ◌≡◌, Bool, true, false, cond, ◌⊎◌, List, [], ◌∷◌, ◌++◌, map, length, take, drop, replicate, ℤ, eqb}
use Rattle.settings.specs.Sizes.{frame_bytes}
use Rattle.block.specs.Packing.{unpacked}
use Rattle.block.specs.declared.Block.{Block}
use Rattle.block.specs.Block.{bit_count}
use Rattle.channels.specs.declared.Scheme.{Scheme}
use Rattle.channels.specs.Fac.{fac_block}
use Rattle.channels.specs.Sdc.{sdc_block}
use Rattle.channels.specs.Msc.{msc_block}
use Rattle.superframe.specs.declared.State.{State}
use Rattle.superframe.specs.Call.{parts, fac_bytes}
use Rattle.superframe.specs.Reset.{reset_of}
use Rattle.superframe.specs.Code.{CodeCall, CodeYield, code_of, byte_lengths}
use Rattle.superframe.specs.Read.{ReadCall, ReadYield, read_of, answer_number, answer_frames}

-- An accepted Reset: the state, settings, table and memory that it was handed.
pub record Begun : Type 0 where
  pub old : State
  pub scheme : Scheme
  pub lent : List ℕ
  pub accepted : (reset_of old scheme lent).done.refusal ≡ 0

-- State and memory as that Reset gave them.
unfoldable pub state_at : Begun → State
state_at b = (reset_of b.old b.scheme b.lent).done.state

unfoldable pub memory_at : Begun → List ℕ
memory_at b = (reset_of b.old b.scheme b.lent).memory

-- The bits of FAC blocks, SDC blocks and multiplex frames.
pub record Bits : Type 0 where
  pub fac : List (List ℕ)
  pub sdc : List (List ℕ)
  pub frames : List (List ℕ)

unfoldable pub no_bits : Bits
no_bits = record { fac = []; sdc = []; frames = [] }

-- The cells of a super frame: those of three FAC blocks, of one SDC block, and the MSC sequence.
pub record SuperFrame : Type 0 where
  pub fac : List ℤ
  pub sdc : List ℤ
  pub msc : List ℤ

-- The bits of a block from its packed bytes.
unfoldable pub bits_of : Block → List ℕ → List ℕ
bits_of k bytes = unpacked (bit_count k) bytes

-- A Code call of a run is accepted.
unfoldable pub codes : State → List ℕ → CodeCall → Bool
codes state memory c = eqb (code_of state memory c).done.refusal 0

-- The bits that the accepted calls of a list bring; each call is handed the state that the last one returned and the memory as that one left it.
unfoldable pub brought : State → List ℕ → List CodeCall → Bits
brought state memory [] = no_bits
brought state memory (c ∷ cs) =
    let y = code_of state memory c in
    let s = state.scheme in
    let rest = brought y.done.state y.memory cs in
    cond (codes state memory c)
    (record {
      fac = map (bits_of (fac_block s)) (parts fac_bytes c.fac) ++ rest.fac;
      sdc = bits_of (sdc_block s) c.sdc ∷ rest.sdc;
      frames = map (bits_of (msc_block s)) (parts (frame_bytes s.settings) c.msc) ++ rest.frames;
    })
    rest

-- The cells that the accepted calls leave in their outputs.
unfoldable pub sent : State → List ℕ → List CodeCall → List SuperFrame
sent state memory [] = []
sent state memory (c ∷ cs) =
    let y = code_of state memory c in
    let rest = sent y.done.state y.memory cs in
    cond (codes state memory c) (record { fac = y.faccells; sdc = y.sdccells; msc = y.msccells } ∷ rest) rest

-- What the calls of a list yield; each is handed the state that the last one returned and the memory as that one left it.
unfoldable pub call_yields : State → List ℕ → List CodeCall → List CodeYield
call_yields state memory [] = []
call_yields state memory (c ∷ cs) =
    let y = code_of state memory c in
    y ∷ call_yields y.done.state y.memory cs

-- The answers of the calls of a list.
unfoldable pub refusals : State → List ℕ → List CodeCall → List ℕ
refusals state memory [] = []
refusals state memory (c ∷ cs) =
    let y = code_of state memory c in
    y.done.refusal ∷ refusals y.done.state y.memory cs

-- State and memory after a list of calls.
unfoldable pub state_after : State → List ℕ → List CodeCall → State
state_after state memory [] = state
state_after state memory (c ∷ cs) =
    let y = code_of state memory c in
    state_after y.done.state y.memory cs

unfoldable pub memory_after : State → List ℕ → List CodeCall → List ℕ
memory_after state memory [] = memory
memory_after state memory (c ∷ cs) =
    let y = code_of state memory c in
    memory_after y.done.state y.memory cs

-- A run: an accepted Reset, and a list of Code calls, refused ones included.
pub record Run : Type 0 where
  pub begun : Begun
  pub calls : List CodeCall

-- The bits that a run brings, and the cells that it sends.
unfoldable pub bits : Run → Bits
bits run = brought (state_at run.begun) (memory_at run.begun) run.calls

unfoldable pub cells : Run → List SuperFrame
cells run = sent (state_at run.begun) (memory_at run.begun) run.calls

-- State and memory at the moment after its last call.
unfoldable pub state_now : Run → State
state_now run = state_after (state_at run.begun) (memory_at run.begun) run.calls

unfoldable pub memory_now : Run → List ℕ
memory_now run = memory_after (state_at run.begun) (memory_at run.begun) run.calls

-- A run is closed if its last two accepted calls, that is its last six multiplex frames, have all MSC bits zero.
pub record Closed (s : Scheme) (b : Bits) : Type 0 where
  pub zeros : drop (length b.frames - 6) b.frames ≡ replicate 6 (replicate (bit_count (msc_block s)) 0)

-- A reader: what its calls lend as Read's do, whether their outputs have room, and what they yield as Read's do.
pub record Reader (C : Type 0) : Type 0 where
  pub lent : C → ReadCall
  pub room : Scheme → C → Bool
  pub yields : State → List ℕ → C → ReadYield

abbrev pub reading : Reader ReadCall
reading = record { lent = λ c. c; room = λ s c. byte_lengths s.settings c.fac c.sdc c.msc; yields = read_of }

-- A call of a reader is accepted.
unfoldable pub reads : {C : Type 0} → Reader C → State → List ℕ → C → Bool
reads r state memory c = eqb (answer_number (r.yields state memory c).reading.answer) 0

-- How many calls of a reader's run are accepted.
unfoldable pub read_count : {C : Type 0} → Reader C → State → List ℕ → List C → ℕ
read_count r state memory [] = 0
read_count r state memory (c ∷ cs) =
    let y = r.yields state memory c in
    let rest = read_count r y.reading.state y.memory cs in
    cond (reads r state memory c) (suc rest) rest

-- The bits that the accepted calls of a reader's run hand out: of the multiplex frames, as many as the answer says.
unfoldable pub handed : State → List ℕ → List ReadCall → Bits
handed state memory [] = no_bits
handed state memory (c ∷ cs) =
    let y = read_of state memory c in
    let s = state.scheme in
    let rest = handed y.reading.state y.memory cs in
    cond (reads reading state memory c)
    (record {
      fac = map (bits_of (fac_block s)) (parts fac_bytes y.fac) ++ rest.fac;
      sdc = bits_of (sdc_block s) y.sdc ∷ rest.sdc;
      frames = map (bits_of (msc_block s)) (take (answer_frames y.reading.answer) (parts (frame_bytes s.settings) y.msc)) ++ rest.frames;
    })
    rest

-- A reader's call lends the cells of the first super frame not yet read, with outputs of the right lengths.
pub record Feeds {C : Type 0} (r : Reader C) (s : Scheme) (cells : List SuperFrame) (c : C) : Type 0 where
  pub frame : SuperFrame
  pub rest : List SuperFrame
  pub unread : cells ≡ frame ∷ rest
  pub fac : (r.lent c).faccells ≡ frame.fac
  pub sdc : (r.lent c).sdccells ≡ frame.sdc
  pub msc : (r.lent c).msccells ≡ frame.msc
  pub roomy : r.room s c ≡ true

-- The super frames not yet read after a call.
unfoldable pub unread_after : {C : Type 0} → Reader C → List SuperFrame → State → List ℕ → C → List SuperFrame
unread_after r cells state memory c = cond (reads r state memory c) (drop 1 cells) cells

-- A reader's run is fed cells in order: every call feeds, or is refused.
abbrev pub Fed : {C : Type 0} → Reader C → List SuperFrame → State → List ℕ → List C → Type 0
Fed r cells state memory [] = Unit {0}
Fed r cells state memory (c ∷ cs) =
    (Feeds r state.scheme cells c ⊎ (reads r state memory c ≡ false))
    × Fed r (unread_after r cells state memory c) (r.yields state memory c).reading.state (r.yields state memory c).memory cs

-- Every call that feeds is accepted.
abbrev pub Accepts : {C : Type 0} → Reader C → List SuperFrame → State → List ℕ → List C → Type 0
Accepts r cells state memory [] = Unit {0}
Accepts r cells state memory (c ∷ cs) =
    (Feeds r state.scheme cells c → reads r state memory c ≡ true)
    × Accepts r (unread_after r cells state memory c) (r.yields state memory c).reading.state (r.yields state memory c).memory cs
