-- What inner functions require and promise: nothing of the papers is stated here.
use Rattle.std.specs.Prelude.{ℕ, ◌+◌, ◌-◌, ◌*◌, ◌/◌, ◌≤◌, ◌≡◌, Bool, cond, List, length, take, drop, replicate, ℤ}
use Rattle.settings.specs.declared.Settings.{Settings}
use Rattle.settings.specs.Sizes.{SizesYield, sizes_of}
use Rattle.superframe.specs.declared.State.{State}
use Rattle.superframe.specs.Read.{ReadCall, ReadYield, read_of}
use Rattle.keptcells.specs.ReadOn.{ReadOnYield, lost_bytes, read_on_of}
use Rattle.superframe.specs.Clauses.{read_call}
use Rattle.console.specs.declared.Job.{Job}
use Rattle.console.specs.declared.Job.TheVariants.{Read, ReadOn}
use Rattle.jobs.specs.declared.sizes.Space.{Space}
use Rattle.deskcells.specs.Cells.{bytes_cells}
use Rattle.jobs.specs.SuperFrame.{JobYield, fac_length, fac_cells_length, grid_length, input_length, output_length, read_answered, read_on_answered}

-- Room for the cells of a super frame, and for their bytes.
pub record CodeRoom (at : ℕ) (bytes : List ℕ) (fac sdc msc : List ℤ) (out : List ℕ) : Type 0 where
  pub first : fac_length ≤ at
  pub last : at ≤ length bytes
  pub room : 2 * length fac + 2 * length sdc + 2 * length msc ≤ length out

-- Room for the blocks of a super frame, and for bytes that tell what is lost.
pub record ReadRoom (lost at : ℕ) (cells : List ℤ) (fac sdc msc out : List ℕ) : Type 0 where
  pub first : fac_cells_length ≤ at
  pub last : at ≤ length cells
  pub room : lost + length fac + length sdc + 1 + length msc ≤ length out

-- The cells of a super frame, of which those of the MSC start at a place, and room for the bytes of a grid.
pub record GridRoom (at : ℕ) (cells grid : List ℤ) (out : List ℕ) : Type 0 where
  pub first : fac_cells_length ≤ at
  pub last : at ≤ length cells
  pub room : 2 * length grid ≤ length out

-- Sizes without the answer beside them.
abbrev pub unnumbered : SizesYield → SizesYield
unnumbered z =
    record {
      refusal = 0;
      sdcbytes = z.sdcbytes;
      mscbytes = z.mscbytes;
      facnumbers = z.facnumbers;
      sdcnumbers = z.sdcnumbers;
      mscnumbers = z.mscnumbers;
      memory = z.memory;
    }

-- The sizes of accepted settings, an input of a super frame's length, and an output with room.
pub record Lent (job : Job) (state : State) (z : SizesYield) (bytes out : List ℕ) : Type 0 where
  pub sizes : z ≡ sizes_of state.scheme.settings
  pub accepted : z.refusal ≡ 0
  pub input : length bytes ≡ input_length job z (grid_length state.scheme.settings)
  pub output : output_length job z (grid_length state.scheme.settings) ≤ length out

-- The numbers of bytes at the start of a buffer.
pub record Numbers (bytes : List ℕ) (buffer : List ℤ) : Type 0 where
  pub front : take (length bytes / 2 - 0) buffer ≡ bytes_cells bytes
  pub long : length buffer ≡ 62235

-- No settings need more.
pub record Enough (z : SizesYield) : Type 0 where
  pub sdcbytes : z.sdcbytes ≤ 210
  pub mscbytes : z.mscbytes ≤ 13767
  pub facnumbers : z.facnumbers ≡ fac_cells_length
  pub sdcnumbers : z.sdcnumbers ≤ 1692
  pub mscnumbers : z.mscnumbers ≤ 36712
  pub memory : z.memory ≤ 30590

-- Nor more than the program has.
pub record Rooms (job : Job) (s : Settings) (r : Space) : Type 0 where
  pub input : r.input ≡ input_length job (sizes_of s) (grid_length s)
  pub memory : r.memory ≡ (sizes_of s).memory
  pub inputmost : r.input ≤ 124470
  pub memorymost : r.memory ≤ 30590

-- The job that reads: reading on where that is asked, and otherwise Read.
abbrev pub read_job : Bool → Job
read_job on = cond on ReadOn Read

-- The call of Read on cells of which those of the MSC start at a place.
abbrev pub read_at : ℕ → List ℤ → List ℕ → List ℕ → List ℕ → ReadCall
read_at at cells fac sdc msc =
    read_call (take fac_cells_length cells) (take (at - fac_cells_length) (drop fac_cells_length cells)) (drop at cells) fac sdc msc

-- What a call of Read leaves in the buffers for its bytes.
pub record BytesLeft (y : ReadYield) (fac sdc msc : List ℕ) : Type 0 where
  pub facbytes : fac ≡ y.fac
  pub sdcbytes : sdc ≡ y.sdc
  pub mscbytes : msc ≡ y.msc

-- The call that reads on with seven bytes for what is lost, and what either job yields of a call.
abbrev pub read_on_by : State → List ℕ → ReadCall → ReadOnYield
read_on_by state memory c = read_on_of state memory (record { call = c; lost = replicate lost_bytes 0 })

abbrev pub read_by : Bool → State → List ℕ → ReadCall → List ℕ → JobYield
read_by on state memory c out = cond on (read_on_answered (read_on_by state memory c) out) (read_answered (read_of state memory c) out)
