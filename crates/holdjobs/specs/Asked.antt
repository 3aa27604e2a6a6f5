-- What `desk code SETTINGS [FROM [TO]]` is asked to do with hold files. 02, S-7.
use Rattle.std.specs.Prelude.{ℕ, Bool, true, false, ◌&&◌, ◌||◌, List, eqb, ltb}
use Rattle.turns.specs.declared.End.{End}
use Rattle.turns.specs.declared.End.TheVariants.{Whole, Inside, Unread, Unwritten, Stopped, BadLine}
use Rattle.console.specs.Text.{bytes_in}
use Rattle.console.specs.Names.{same_bytes}

-- Without FROM, the fourth argument with the program's name, or with `-` there, a run begins from a reset.
unfoldable pub from_reset : ℕ → List ℕ → Bool
from_reset count from = ltb count 4 || same_bytes from (bytes_in "-")

-- After a write that failed it is not known what went out; at every other end the whole super frames did.
unfoldable pub known : End → Bool
known Whole = true
known Inside = true
known Unread = true
known Unwritten = false
known (Stopped number block) = true
known BadLine = true

-- With TO, the fifth argument, a run stores a file where it is known what went out.
unfoldable pub stores : ℕ → End → Bool
stores count end = eqb count 5 && known end
