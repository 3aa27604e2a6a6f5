-- What functions inside a call require: acceptance by name, as facts about state, memory and buffers. Each follows from the tests of Code and Read. Then the records of the calls from their parts.
use Rattle.std.specs.Prelude.{ℕ, ◌*◌, ◌<◌, ◌≡◌, Bool, true, false, List, length, ℤ}
use Rattle.lists.specs.Lists.{table}
use Rattle.partlengths.specs.Cells.{fac_cells}
use Rattle.settings.specs.declared.Settings.{Settings}
use Rattle.settings.specs.Lengths.{n_mux, n_sdc, n_sfa}
use Rattle.settings.specs.Sizes.{depth, frame_bytes, sdc_bytes}
use Rattle.lists.specs.Bools.{every}
use Rattle.channels.specs.declared.Scheme.{Scheme}
use Rattle.channels.specs.Scheme.{scheme_refusal}
use Rattle.superframe.specs.declared.State.{State}
use Rattle.superframe.specs.Answers.{Done}
use Rattle.superframe.specs.Answers.{Reading}
use Rattle.superframe.specs.Call.{fac_bytes, memory_length, memory_cell}
use Rattle.superframe.specs.Code.{CodeCall, CodeYield, spares_zero}
use Rattle.superframe.specs.Read.{ReadCall, ReadYield}

-- No refusal from 1 to 8, nor 23: settings that are allowed, a table that passes, and memory of the settings' length.
pub record Fits (s : Scheme) (memory : List ℕ) : Type 0 where
  pub scheme : scheme_refusal s ≡ 0
  pub long : length memory ≡ memory_length s.settings

-- No refusal 12: position and count below the depth, and every memory cell an MSC point, or empty where that passes.
pub record Ordered (empties : Bool) (state : State) (memory : List ℕ) : Type 0 where
  pub position : state.position < depth state.scheme.settings
  pub count : state.count < depth state.scheme.settings
  pub cells : every (table (memory_cell empties state.scheme memory) 0 (depth state.scheme.settings * n_mux state.scheme.settings)) ≡ true

-- The buffers of packed bytes have their lengths.
pub record BytesFit (s : Settings) (fac sdc msc : List ℕ) : Type 0 where
  pub faclong : length fac ≡ 3 * fac_bytes
  pub sdclong : length sdc ≡ sdc_bytes s
  pub msclong : length msc ≡ 3 * frame_bytes s

-- The buffers of cells have theirs.
pub record CellsFit (s : Settings) (fac sdc msc : List ℤ) : Type 0 where
  pub faclong : length fac ≡ 3 * (2 * fac_cells)
  pub sdclong : length sdc ≡ 2 * n_sdc s
  pub msclong : length msc ≡ 2 * n_sfa s

-- What an accepted Code call says.
pub record CodeFits (state : State) (memory : List ℕ) (c : CodeCall) : Type 0 where
  pub fits : Fits state.scheme memory
  pub bytes : BytesFit state.scheme.settings c.fac c.sdc c.msc
  pub cells : CellsFit state.scheme.settings c.faccells c.sdccells c.msccells
  pub spares : spares_zero state.scheme.settings c.sdc c.msc ≡ true
  pub order : Ordered false state memory

-- What a Read call says that no number from 1 to 12 refuses.
pub record ReadFits (state : State) (memory : List ℕ) (c : ReadCall) : Type 0 where
  pub fits : Fits state.scheme memory
  pub cells : CellsFit state.scheme.settings c.faccells c.sdccells c.msccells
  pub bytes : BytesFit state.scheme.settings c.fac c.sdc c.msc
  pub order : Ordered false state memory

-- What a Code call is lent, and what it yields.
abbrev pub code_call : List ℕ → List ℕ → List ℕ → List ℤ → List ℤ → List ℤ → CodeCall
code_call fac sdc msc faccells sdccells msccells =
    record { fac = fac; sdc = sdc; msc = msc; faccells = faccells; sdccells = sdccells; msccells = msccells }

abbrev pub code_yield : Done → List ℕ → List ℤ → List ℤ → List ℤ → CodeYield
code_yield done memory faccells sdccells msccells =
    record { done = done; memory = memory; faccells = faccells; sdccells = sdccells; msccells = msccells }

-- What a Read call is lent, and what it yields.
abbrev pub read_call : List ℤ → List ℤ → List ℤ → List ℕ → List ℕ → List ℕ → ReadCall
read_call faccells sdccells msccells fac sdc msc =
    record { faccells = faccells; sdccells = sdccells; msccells = msccells; fac = fac; sdc = sdc; msc = msc }

abbrev pub read_yield : Reading → List ℕ → List ℕ → List ℕ → List ℕ → ReadYield
read_yield reading memory fac sdc msc = record { reading = reading; memory = memory; fac = fac; sdc = sdc; msc = msc }
