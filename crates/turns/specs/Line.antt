-- Lines: read byte by byte, and what follows from one.
use Rattle.std.specs.Prelude.{ℕ, ◌+◌, Bool, true, false, cond, eqb, ltb, ⊤, Result, Ok, Err}
use Rattle.turns.specs.declared.End.{End}
use Rattle.turns.specs.declared.End.TheVariants.{Whole, Inside, Unread, Unwritten, Stopped, BadLine}
use Rattle.turns.specs.declared.Seen.{Seen}
use Rattle.turns.specs.declared.Seen.TheVariants.{Byte, Feed, Ended, Failed}

-- A read of one byte: none came at the end of the input, or because it failed; a line feed (10) ends a line.
unfoldable pub seen_of : ℕ → Bool → ℕ → Seen
seen_of got ended byte = cond (eqb got 1) (cond (eqb byte 10) Feed Byte) (cond ended Ended Failed)

-- Where a byte goes in a buffer of 256, and how many have been gathered then. A longer line takes the last place again and again: it is as long as the buffer, and no line of any job is.
unfoldable pub place_of : ℕ → ℕ
place_of count = cond (ltb count 256) count 255

unfoldable pub gathered : ℕ → ℕ
gathered count = cond (ltb count 256) (count + 1) 256

-- A line with its feed goes on; the input may end before a line and not inside one.
unfoldable pub after_line : ℕ → Seen → Result ⊤ End
after_line count Byte = Ok tt
after_line count Feed = Ok tt
after_line count Failed = Err Unread
after_line count Ended = cond (eqb count 0) (Err Whole) (Err Inside)

-- A line that is none of the job, or that is refused, is said and the run goes on; anything else ends it.
unfoldable pub line_over : End → Bool
line_over Whole = true
line_over Inside = true
line_over Unread = true
line_over Unwritten = true
line_over (Stopped number block) = false
line_over BadLine = false
