-- What the functions of this crate require and promise: nothing of 01 is stated here.
use Rattle.std.specs.Prelude.{ℕ, ◌*◌, ◌≤◌, ◌≡◌, List, length, ℤ}
use Rattle.settings.specs.Sizes.{frame_bytes}
use Rattle.blockreader.specs.Clauses.{PlacesRead}
use Rattle.channels.specs.Msc.{msc_block}
use Rattle.superframe.specs.declared.State.{State}
use Rattle.superframe.specs.Memory.{slot_size}
use Rattle.superframe.specs.Interleaving.{after_rows, finished_frames}
use Rattle.superframe.specs.Code.{progress_of, state_of}
use Rattle.superframe.specs.Read.{rows_of}
use Rattle.cellmemory.specs.Clauses.{StateFits}
use Rattle.frames.specs.declared.Frames.{Frames}

-- Three rows, state and memory in order, and room for three frames.
pub record RowsLent (state : State) (msc : List ℤ) (memory out : List ℕ) : Type 0 where
  pub fits : StateFits state memory
  pub rows : 3 * slot_size state.scheme.settings ≤ length msc
  pub room : length out ≡ 3 * frame_bytes state.scheme.settings

-- The frames that three rows finish, and state and memory after them.
pub record RowsRead (state : State) (msc : List ℤ) (memory : List ℕ) (r : Frames) (memory' out' : List ℕ) : Type 0 where
  pub state_is : r.after ≡ state_of state.scheme (after_rows state.scheme.settings (progress_of state memory) (rows_of state.scheme.settings msc))
  pub held : memory' ≡ (after_rows state.scheme.settings (progress_of state memory) (rows_of state.scheme.settings msc)).memory
  pub finished_is : r.finished ≡ length (finished_frames state.scheme.settings (progress_of state memory) (rows_of state.scheme.settings msc))
  pub few : r.finished ≤ 3
  pub places :
      PlacesRead (msc_block state.scheme) (frame_bytes state.scheme.settings)
      (finished_frames state.scheme.settings (progress_of state memory) (rows_of state.scheme.settings msc)) r.given out'
