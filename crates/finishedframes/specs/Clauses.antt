-- What the functions of this crate require and promise: nothing of 01 is stated here.
use Rattle.std.specs.Prelude.{ℕ, ◌+◌, ◌*◌, ◌<◌, ◌≡◌, List, ◌++◌, length, drop, ℤ}
use Rattle.lists.specs.Lists.{table}
use Rattle.superframe.specs.declared.State.{State}
use Rattle.superframe.specs.Memory.{slot_size}
use Rattle.superframe.specs.Interleaving.{finished_by}
use Rattle.superframe.specs.Call.{part}
use Rattle.superframe.specs.Code.{progress_of}
use Rattle.cellmemory.specs.Clauses.{StateFits}

-- A row has been taken, and there is room for the cells of the frame that it finishes.
pub record FinishLent (finished : ℕ) (state : State) (memory : List ℕ) (cells : List ℤ) : Type 0 where
  pub fits : StateFits state memory
  pub room : length cells ≡ 36708
  pub few : finished < 3

-- That frame's cells stand behind those of the frames before; the buffer's rest is as it was.
pub record FrameLaid (finished : ℕ) (state : State) (memory : List ℕ) (cells : List ℤ) (r : ℕ) (cells' : List ℤ) : Type 0 where
  pub count : r ≡ finished + length (finished_by state.scheme.settings (progress_of state memory) memory)
  pub laid : let n = slot_size state.scheme.settings in
      table (part n cells') 0 r ≡ table (part n cells) 0 finished ++ finished_by state.scheme.settings (progress_of state memory) memory
  pub rest : let n = slot_size state.scheme.settings in drop (n * r) cells' ≡ drop (n * r) cells
