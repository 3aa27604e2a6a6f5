-- What the functions of this crate require and promise: nothing of 01 is stated here.
use Rattle.std.specs.Prelude.{ℕ, ◌*◌, ◌≡◌, List, ◌++◌, length, ℤ}
use Rattle.settings.specs.Lengths.{n_sfa}
use Rattle.settings.specs.Sizes.{frame_bytes}
use Rattle.superframe.specs.declared.State.{State}
use Rattle.superframe.specs.Memory.{slot_size, stored}
use Rattle.superframe.specs.Interleaving.{Progress, after_frames, sent_row, sent_rows, fillers}
use Rattle.superframe.specs.Code.{progress_of, state_of, frame_cells}
use Rattle.cellmemory.specs.Clauses.{StateFits}

-- A frame's cells in memory at the position, and the row that is sent then.
pub record FrameSent (state : State) (cells : List ℤ) (memory memory' : List ℕ) (row : List ℤ) : Type 0 where
  pub held : memory' ≡ stored (slot_size state.scheme.settings) memory state.position cells
  pub sent : row ≡ sent_row state.scheme.settings memory' state.position

-- The packed bytes of three frames, memory, and room for the MSC sequence.
pub record MscFits (state : State) (msc memory : List ℕ) (cells : List ℤ) : Type 0 where
  pub fits : StateFits state memory
  pub input : length msc ≡ 3 * frame_bytes state.scheme.settings
  pub numbers : length cells ≡ 2 * n_sfa state.scheme.settings

-- The progress after the first frames of a call, and the rows that they send.
abbrev pub frames_after : State → List ℕ → List (List ℤ) → Progress
frames_after state memory fs = after_frames state.scheme.settings (progress_of state memory) fs

abbrev pub frames_sent : State → List ℕ → List (List ℤ) → List ℤ
frames_sent state memory fs = sent_rows state.scheme.settings (progress_of state memory) fs

-- The state and memory after the frames, and their rows with the fillers.
pub record MscCoded (state : State) (msc memory : List ℕ) (state' : State) (memory' : List ℕ) (cells : List ℤ) : Type 0 where
  pub after : state' ≡ state_of state.scheme (frames_after state memory (frame_cells state.scheme msc))
  pub held : memory' ≡ (frames_after state memory (frame_cells state.scheme msc)).memory
  pub sent : cells ≡ frames_sent state memory (frame_cells state.scheme msc) ++ fillers state.scheme.settings
