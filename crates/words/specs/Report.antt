-- What the program `desk` says on standard error.
use Rattle.std.specs.Prelude.{ℕ, Bool, true, false, cond, ◌||◌, List, [], ◌++◌, eqb}
use Rattle.line.specs.Written.{decimal}
use Rattle.turns.specs.declared.End.{End}
use Rattle.turns.specs.declared.End.TheVariants.{Whole, Inside, Unread, Unwritten, Stopped, BadLine}
use Rattle.words.specs.declared.Counted.{Counted}
use Rattle.words.specs.declared.Counted.TheVariants.{SuperFrame, MultiplexFrame, Line}
use Rattle.words.specs.Words.{refusal_words, block_words}
use Rattle.console.specs.Text.{bytes_in}

-- The block of a refusal and its words; refusals other than 13 and 14 name none.
unfoldable pub block_part : ℕ → ℕ → List ℕ
block_part number block =
    cond (eqb number 13 || eqb number 14) (bytes_in ", block " ++ decimal block ++ bytes_in ", " ++ block_words number block) []

-- A refusal: its number, its words, and its block.
unfoldable pub refused_part : ℕ → ℕ → List ℕ
refused_part number block =
    bytes_in "refused: " ++ decimal number ++ bytes_in ", " ++ refusal_words number ++ block_part number block

-- Why a super frame did not go through.
unfoldable pub why : End → List ℕ
why Whole = []
why Inside = bytes_in "the input ends inside it"
why Unread = bytes_in "not read: the input failed"
why Unwritten = bytes_in "not written: the output failed"
why (Stopped number block) = refused_part number block
why BadLine = bytes_in "bad line"

-- Whether a run ended otherwise than after a whole super frame.
unfoldable pub failed : End → Bool
failed Whole = false
failed Inside = true
failed Unread = true
failed Unwritten = true
failed (Stopped number block) = true
failed BadLine = true

-- What a run is counted by.
unfoldable pub unit_word : Counted → List ℕ
unit_word SuperFrame = bytes_in "super frame"
unit_word MultiplexFrame = bytes_in "multiplex frame"
unit_word Line = bytes_in "line"

-- What ended a run at a super frame or a multiplex frame, counted from 0, or what is wrong with a line, counted from 1; nothing where the input ended after a whole one.
unfoldable pub end_line : Counted → End → ℕ → List ℕ
end_line unit end index =
    cond (failed end) (unit_word unit ++ bytes_in " " ++ decimal index ++ bytes_in ": " ++ why end ++ bytes_in "\n") []

-- A run: the line of what ended it, and the closing line with the frames that went through.
unfoldable pub report_of : Counted → End → ℕ → List ℕ
report_of unit end count = end_line unit end count ++ unit_word unit ++ bytes_in "s: " ++ decimal count ++ bytes_in "\n"

-- A thing that is refused, by the words that name it.
unfoldable pub refused_text : List ℕ → ℕ → List ℕ
refused_text thing number = thing ++ refused_part number 0 ++ bytes_in "\n"

-- Settings that are refused.
unfoldable pub settings_line : ℕ → List ℕ
settings_line number = bytes_in "settings: " ++ refused_part number 0 ++ bytes_in "\n"

-- Anything else than a job and its arguments.
unfoldable pub usage : List ℕ
usage =
    bytes_in "usage: desk JOB ARGUMENTS\n"
    ++ bytes_in "  code SETTINGS [FROM [TO]]   super frames of bytes to super frames of cells\n"
    ++ bytes_in "  read SETTINGS               super frames of cells to super frames of bytes\n"
    ++ bytes_in "  read-on SETTINGS            the same past spoiled cells, with marks of what is lost\n"
    ++ bytes_in "  grid SETTINGS               super frames of cells to grids by symbol and carrier\n"
    ++ bytes_in "  ungrid SETTINGS             grids to super frames of cells\n"
    ++ bytes_in "  fac-build SETTINGS          lines of fourteen fields in decimal to FAC blocks\n"
    ++ bytes_in "  fac-read SETTINGS           lines of FAC blocks to their fourteen fields\n"
    ++ bytes_in "  nearest                     lines of 130 received bits, 0, 1 or ?, to FAC blocks\n"
    ++ bytes_in "  mux SETTINGS DESCRIPTION    logical frames of streams to multiplex frames\n"
    ++ bytes_in "  demux SETTINGS DESCRIPTION  multiplex frames to logical frames of streams\n"
    ++ bytes_in "  to-new SETTINGS             an old hold file to a new one\n"
    ++ bytes_in "  to-old SETTINGS             a new hold file to an old one\n"
    ++ bytes_in "  preview SETTINGS HOLDFILE   the next super frame's bytes to its cells\n"
    ++ bytes_in "  plan FILE [SUPERFRAME]      a week's stretches, or a super frame's rule and mark\n"
    ++ bytes_in "  fit SETTINGS BYTES          super frames, memory and zero bits for so many bytes\n"
    ++ bytes_in "SETTINGS: twenty hexadecimal digits, 0 to 9 and A to F\n"
    ++ bytes_in "FROM, HOLDFILE: a new hold file to begin from, for FROM also - for a reset; TO: one to store at the end\n"
    ++ bytes_in "DESCRIPTION: decimal numbers joined by commas, for each stream its bytes in part A and in part B\n"
    ++ bytes_in "FILE: a plan, one rule a line: FIRST AFTER SETTINGS, in minutes of the week; SUPERFRAME: 0 to 503999\n"
    ++ bytes_in "BYTES: a decimal number below 4294967296\n"
