-- Hold files that the desk's program writes: `to-new`, `to-old`, and the file of a run. 02, S-7.
use Rattle.std.specs.Prelude.{ℕ, cond, List, take, eqb, Result}
use Rattle.settings.specs.declared.Settings.{Settings}
use Rattle.superframe.specs.declared.State.{State}
use Rattle.holdlines.specs.declared.Form.{Form}
use Rattle.holdlines.specs.declared.Form.TheVariants.{Old, New}
use Rattle.holdfile.specs.Convert.{SizesYield, ConvertYield, convert_of, file_sizes_of}
use Rattle.holdcalls.specs.Store.{store_of}
use Rattle.console.specs.declared.TurnJob.{TurnJob}
use Rattle.console.specs.declared.TurnJob.TheVariants.{ToNew, ToOld}
use Rattle.turns.specs.declared.Failure.{Failure}
use Rattle.turns.specs.Yield.{MadeYield, made_through, made_refused, answered}

-- The bytes of a file; 0 where the settings are refused.
unfoldable pub size_in : Form → SizesYield → ℕ
size_in Old z = z.old
size_in New z = z.new

unfoldable pub file_bytes : Form → Settings → ℕ
file_bytes form s = size_in form (file_sizes_of s)

-- By the number of a refusal: so many bytes are to be written, or none.
unfoldable pub made_by : ℕ → ℕ → Result ℕ Failure
made_by number n = cond (eqb number 0) (made_through n) (made_refused number)

-- What a call makes of the front of a buffer.
unfoldable pub written : ConvertYield → List ℕ → MadeYield
written y out = answered y.answer y.out out

-- A file of one form in the other, at the start of a buffer.
unfoldable pub turned_of : Form → Form → Settings → List ℕ → List ℕ → MadeYield
turned_of from to s file out = written (convert_of from s file (take (file_bytes to s) out)) out

unfoldable pub turn_of : TurnJob → Settings → List ℕ → List ℕ → MadeYield
turn_of ToNew s file out = turned_of Old New s file out
turn_of ToOld s file out = turned_of New Old s file out

-- The new file of a run's state and memory.
unfoldable pub stored_of : State → List ℕ → List ℕ → MadeYield
stored_of state memory out = written (store_of New state memory (take (file_bytes New state.scheme.settings) out)) out
