-- S-7 of state and memory: storing in one form and turning the file is storing in the other, and restoring gives back what was stored. 02 S-7.
use Rattle.std.specs.Prelude.{ℕ, ◌≡◌, List, length}
use Rattle.cellbytes.specs.Clauses.{AllBytes}
use Rattle.channels.specs.declared.Scheme.{Scheme}
use Rattle.superframe.specs.declared.State.{State}
use Rattle.superframe.specs.Call.{memory_length}
use Rattle.holdlines.specs.declared.Form.{Form}
use Rattle.holdlines.specs.Files.{file_length}
use Rattle.holdfile.specs.Convert.{other, convert_yield, convert_of}
use Rattle.holdcalls.specs.Store.{store_of}
use Rattle.holdcalls.specs.Restore.{restore_yield, restore_of}

pub record StoredAndRestored : Type 0 where
  -- Storing in one form and turning the file into the other is storing in the other form: the same answer, 10 included, and the same bytes.
  -- For every state and memory that storing accepts, whatever the file's room held before.
  pub turns : (form : Form) (state : State) (memory file out : List ℕ)
      → (store_of form state memory file).answer ≡ 0
      → convert_of form state.scheme.settings (store_of form state memory file).out out ≡ store_of (other form) state memory out
  -- Restoring what was stored, under the same settings and table, gives state and memory back. Memory is bytes.
  -- For every state and memory that storing accepts, whatever the file's room, the old state and the lent memory held before.
  pub restores : (form : Form) (state : State) (memory file : List ℕ)
      → AllBytes memory
      → (store_of form state memory file).answer ≡ 0
      → (old : State) (lent : List ℕ)
      → length lent ≡ memory_length state.scheme.settings
      → restore_of form old state.scheme (store_of form state memory file).out lent
      ≡ restore_yield (record { refusal = 0; state = state }) memory
  -- What is restored from a file is stored again as that file. So 12 lets pass what 18 does, and nothing of a file is lost.
  pub stores_again : (form : Form) (old : State) (s : Scheme) (file lent room : List ℕ)
      → (restore_of form old s file lent).done.refusal ≡ 0
      → length room ≡ file_length form s.settings
      → store_of form (restore_of form old s file lent).done.state (restore_of form old s file lent).memory room ≡ convert_yield 0 file
