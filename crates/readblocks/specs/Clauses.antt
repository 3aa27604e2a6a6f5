-- What the functions of this crate require and promise: nothing of 01 is stated here.
use Rattle.std.specs.Prelude.{ℕ, ◌*◌, ◌≡◌, List, ◌∷◌, ◌++◌, length, ℤ}
use Rattle.partlengths.specs.Cells.{fac_cells}
use Rattle.settings.specs.Sizes.{frame_bytes, sdc_bytes}
use Rattle.block.specs.Reading.{given}
use Rattle.channels.specs.Fac.{fac_block}
use Rattle.channels.specs.Sdc.{sdc_block}
use Rattle.channels.specs.Msc.{msc_block}
use Rattle.superframe.specs.declared.State.{State}
use Rattle.superframe.specs.Interleaving.{after_rows, finished_frames}
use Rattle.superframe.specs.Call.{parts}
use Rattle.superframe.specs.Code.{progress_of, state_of}
use Rattle.superframe.specs.Read.{ReadCall, rows_of}
use Rattle.superframe.specs.Blocks.{kept_bytes, placed_bytes, placed_tests}
use Rattle.superframe.specs.Clauses.{BytesFit, CellsFit}
use Rattle.cellmemory.specs.Clauses.{StateFits}
use Rattle.readblocks.specs.declared.Blocks.{Blocks}

-- The cells of a call, state and memory in order, and room for the bytes.
pub record BlocksLent (state : State) (memory : List ℕ) (c : ReadCall) : Type 0 where
  pub fits : StateFits state memory
  pub cells : CellsFit state.scheme.settings c.faccells c.sdccells c.msccells
  pub bytes : BytesFit state.scheme.settings c.fac c.sdc c.msc

-- The FAC blocks of a call, and the frames that it finishes.
abbrev pub facs_of : ReadCall → List (List ℤ)
facs_of c = parts (2 * fac_cells) c.faccells

abbrev pub frames_of : State → List ℕ → ReadCall → List (List ℤ)
frames_of state memory c = finished_frames state.scheme.settings (progress_of state memory) (rows_of state.scheme.settings c.msccells)

-- What reading every block of a call gives: each block in its place, and the state after the rows.
unfoldable pub blocks_of : State → List ℕ → ReadCall → Blocks
blocks_of state memory c =
    let s = state.scheme in
    record {
      given = placed_tests (fac_block s) (facs_of c) ++ (given (sdc_block s) c.sdccells ∷ placed_tests (msc_block s) (frames_of state memory c));
      finished = length (frames_of state memory c);
      after = state_of s (after_rows s.settings (progress_of state memory) (rows_of s.settings c.msccells));
    }

pub record BlocksRead (state : State) (memory : List ℕ) (c : ReadCall) (r : Blocks) (memory' fac' sdc' msc' : List ℕ) : Type 0 where
  pub blocks : r ≡ blocks_of state memory c
  pub held : memory' ≡ (after_rows state.scheme.settings (progress_of state memory) (rows_of state.scheme.settings c.msccells)).memory
  pub fac : fac' ≡ placed_bytes (fac_block state.scheme) 9 (facs_of c)
  pub sdc : sdc' ≡ kept_bytes (sdc_block state.scheme) (sdc_bytes state.scheme.settings) c.sdccells
  pub msc : msc' ≡ placed_bytes (msc_block state.scheme) (frame_bytes state.scheme.settings) (frames_of state memory c)
