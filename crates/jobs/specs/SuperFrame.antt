-- What the jobs `code`, `read`, `read-on`, `grid` and `ungrid` make of a super frame, by the definitions of the calls.
use Rattle.std.specs.Prelude.{ℕ, ◌+◌, ◌*◌, Bool, true, false, cond, List, [], ◌++◌, length, take, drop, replicate, ℤ, pos, eqb, leb, Ok, Err}
use Rattle.std.proofs.lemmas.List.Edits.{sets}
use Rattle.settings.specs.Sizes.{SizesYield, sizes_of}
use Rattle.channels.specs.Scheme.{scheme_refusal}
use Rattle.superframe.specs.declared.State.{State}
use Rattle.superframe.specs.Answers.{Answer}
use Rattle.superframe.specs.Answers.{Finished, Refused as Answer-as-Refused}
use Rattle.superframe.specs.Call.{fac_bytes, fac_numbers}
use Rattle.superframe.specs.Code.{CodeCall, CodeYield, code_of}
use Rattle.superframe.specs.Read.{ReadCall, ReadYield, read_of}
use Rattle.keptcells.specs.ReadOn.{ReadOnCall, ReadOnYield, lost_bytes, read_on_of}
use Rattle.callrefusals.specs.Clauses.{length_refusal}
use Rattle.console.specs.declared.Job.{Job}
use Rattle.settings.specs.declared.Settings.{Settings}
use Rattle.placing.specs.Cells.{Cells}
use Rattle.grid.specs.Calls.{grid_sizes, PlaceYield, place_of, TakeYield, take_of}
use Rattle.console.specs.declared.Job.TheVariants.{Code, Read, ReadOn, Grid, Ungrid}
use Rattle.turns.specs.declared.Failure.TheVariants.{Refused}
use Rattle.jobs.specs.declared.Step.{Step}
use Rattle.deskcells.specs.Cells.{cell_bytes, bytes_cells}
use Rattle.jobs.specs.Output.{cell_output, block_output}

-- All that a job yields for a super frame: its answer, and memory and the output buffer as it leaves them.
pub record JobYield : Type 0 where
  pub step : Step
  pub memory : List ℕ
  pub out : List ℕ

abbrev pub job_yield : Step → List ℕ → List ℕ → JobYield
job_yield step memory out = record { step = step; memory = memory; out = out }

-- A super frame that went through: bytes from the start of the buffer on, and their number.
unfoldable pub through : State → List ℕ → List ℕ → List ℕ → JobYield
through state memory bytes out =
    job_yield (record { made = Ok (length bytes); state = state }) memory (sets out 0 bytes)

-- One that was refused: nothing is written.
unfoldable pub refused : ℕ → ℕ → State → List ℕ → List ℕ → JobYield
refused number block state memory out =
    job_yield (record { made = Err (Refused number block); state = state }) memory out

-- Three FAC blocks of a super frame: their bytes, and the numbers of their cells.
abbrev pub fac_length : ℕ
fac_length = 3 * fac_bytes

abbrev pub fac_cells_length : ℕ
fac_cells_length = 3 * fac_numbers

-- The bytes of a super frame's blocks, and those of its cells.
unfoldable pub blocks_length : SizesYield → ℕ
blocks_length z = fac_length + (z.sdcbytes + z.mscbytes)

unfoldable pub cells_length : SizesYield → ℕ
cells_length z = 2 * (z.facnumbers + (z.sdcnumbers + z.mscnumbers))

-- The bytes of a grid.
unfoldable pub grid_length : Settings → ℕ
grid_length s = 2 * (grid_sizes s).numbers

-- What comes in for a super frame, and the most that goes out: by the sizes of the settings and the bytes of a grid.
unfoldable pub input_length : Job → SizesYield → ℕ → ℕ
input_length Code z grid = blocks_length z
input_length Read z grid = cells_length z
input_length ReadOn z grid = cells_length z
input_length Grid z grid = cells_length z
input_length Ungrid z grid = grid

unfoldable pub output_length : Job → SizesYield → ℕ → ℕ
output_length Code z grid = cells_length z
output_length Read z grid = blocks_length z + 1
output_length ReadOn z grid = lost_bytes + (blocks_length z + 1)
output_length Grid z grid = grid
output_length Ungrid z grid = cells_length z

-- `code`: FAC, SDC and MSC, one behind the other, and working buffers for their cells.
unfoldable pub code_lent : SizesYield → List ℕ → CodeCall
code_lent z bytes =
    record {
      fac = take fac_length bytes;
      sdc = take z.sdcbytes (drop fac_length bytes);
      msc = drop (fac_length + z.sdcbytes) bytes;
      faccells = replicate fac_cells_length (pos 0);
      sdccells = replicate z.sdcnumbers (pos 0);
      msccells = replicate z.mscnumbers (pos 0);
    }

-- What goes out by the number of a refusal, 0 for acceptance.
unfoldable pub answered : ℕ → State → List ℕ → List ℕ → List ℕ → JobYield
answered number state memory bytes out = cond (eqb number 0) (through state memory bytes out) (refused number 0 state memory out)

unfoldable pub code_written : CodeYield → List ℕ → JobYield
code_written y out =
    answered y.done.refusal y.done.state y.memory (cell_output y.faccells y.sdccells y.msccells) out

-- `read`: the cells of FAC, SDC and MSC, and working buffers for their bytes.
unfoldable pub read_lent : SizesYield → List ℤ → ReadCall
read_lent z cells =
    record {
      faccells = take fac_cells_length cells;
      sdccells = take z.sdcnumbers (drop fac_cells_length cells);
      msccells = drop (fac_cells_length + z.sdcnumbers) cells;
      fac = replicate fac_length 0;
      sdc = replicate z.sdcbytes 0;
      msc = replicate z.mscbytes 0;
    }

-- What goes out: bytes that tell what is lost, of which `read` has none, and then the blocks.
unfoldable pub read_written : Answer → List ℕ → ReadYield → List ℕ → JobYield
read_written (Finished n) lost y out = through y.reading.state y.memory (lost ++ block_output y.fac y.sdc n y.msc) out
read_written (Answer-as-Refused number block) lost y out = refused number block y.reading.state y.memory out

unfoldable pub read_answered : ReadYield → List ℕ → JobYield
read_answered y out = read_written y.reading.answer [] y out

-- `read-on`: as `read`, with the seven bytes in front of each super frame. 02, S-13.
unfoldable pub read_on_lent : SizesYield → List ℤ → ReadOnCall
read_on_lent z cells = record { call = read_lent z cells; lost = replicate lost_bytes 0 }

unfoldable pub read_on_answered : ReadOnYield → List ℕ → JobYield
read_on_answered y out = read_written y.yield.reading.answer y.lost y.yield out

-- `grid`: the same cells, and a grid that is placed; `ungrid`: a grid, and the cells that are taken off it. State and memory stay as they were. 02, S-4.
unfoldable pub cells_in : SizesYield → List ℤ → Cells
cells_in z cells =
    record { fac = take fac_cells_length cells; sdc = take z.sdcnumbers (drop fac_cells_length cells); msc = drop (fac_cells_length + z.sdcnumbers) cells }

unfoldable pub blank_cells : SizesYield → Cells
blank_cells z =
    record {
      fac = replicate fac_cells_length (pos 0);
      sdc = replicate z.sdcnumbers (pos 0);
      msc = replicate z.mscnumbers (pos 0);
    }

unfoldable pub grid_written : PlaceYield → State → List ℕ → List ℕ → JobYield
grid_written y state memory out = answered y.answer state memory (cell_bytes y.grid) out

unfoldable pub cells_written : TakeYield → State → List ℕ → List ℕ → JobYield
cells_written y state memory out =
    answered y.answer state memory (cell_output y.cells.fac y.cells.sdc y.cells.msc) out

-- The call of a job on buffers of the right lengths.
unfoldable pub job_call : Job → State → List ℕ → List ℕ → List ℕ → JobYield
job_call Code state memory bytes out = code_written (code_of state memory (code_lent (sizes_of state.scheme.settings) bytes)) out
job_call Read state memory bytes out = read_answered (read_of state memory (read_lent (sizes_of state.scheme.settings) (bytes_cells bytes))) out
job_call ReadOn state memory bytes out = read_on_answered (read_on_of state memory (read_on_lent (sizes_of state.scheme.settings) (bytes_cells bytes))) out
job_call Grid state memory bytes out =
    grid_written
    (place_of state.scheme.settings (cells_in (sizes_of state.scheme.settings) (bytes_cells bytes))
    (replicate (grid_sizes state.scheme.settings).numbers (pos 0)))
    state
    memory
    out
job_call Ungrid state memory bytes out =
    cells_written (take_of state.scheme.settings (bytes_cells bytes) (blank_cells (sizes_of state.scheme.settings))) state memory out

-- The job that counts what is lost.
unfoldable pub reads_on : Job → Bool
reads_on Code = false
reads_on Read = false
reads_on ReadOn = true
reads_on Grid = false
reads_on Ungrid = false

-- 1 to 10: an input of a super frame's length, and an output with room.
unfoldable pub job_refusal : Job → State → List ℕ → List ℕ → List ℕ → ℕ
job_refusal job state memory bytes out =
    let z = sizes_of state.scheme.settings in
    let grid = grid_length state.scheme.settings in
    length_refusal (scheme_refusal state.scheme) z (length memory) (eqb (length bytes) (input_length job z grid)) (leb (output_length job z grid) (length out))

-- What a job yields for a super frame, for every input.
unfoldable pub job_of : Job → State → List ℕ → List ℕ → List ℕ → JobYield
job_of job state memory bytes out =
    cond (eqb (job_refusal job state memory bytes out) 0) (job_call job state memory bytes out)
    (refused (job_refusal job state memory bytes out) 0 state memory out)
