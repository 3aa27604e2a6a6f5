-- What functions inside a call require and find: nothing of 02 is stated here.
use Rattle.std.specs.Prelude.{ℕ, zero, suc, ◌+◌, ◌*◌, ◌≤◌, ◌≡◌, Bool, true, cond, ◌&&◌, List, map, length, get_or, take, drop, ℤ, eqb, ltb}
use Rattle.lists.specs.Lists.{table}
use Rattle.lists.specs.Same.{same_number}
use Rattle.lists.specs.Bools.{every}
use Rattle.cellbytes.specs.CellBytes.{signed, four_bits, bytes}
use Rattle.holdlines.specs.declared.Form.{Form}
use Rattle.holdlines.specs.Hexadecimal.{is_digit}
use Rattle.settings.specs.declared.Settings.{Settings}
use Rattle.settings.specs.Sizes.{depth}
use Rattle.holdlines.specs.Files.{number_digits, read, all_read, held_by, LINE_FEED, held_in, valid}
use Rattle.holdlines.specs.Clauses.{digit_or}

-- A number of -8 to 7.
unfoldable pub is_small : ℤ → Bool
is_small v = same_number (signed (four_bits v)) v

-- The bytes of number k of a line, whether they are digits of a small number, and its four bits; 16 where they are not.
unfoldable pub number_bytes : Form → List ℕ → ℕ → List ℕ
number_bytes form line k = take (number_digits form) (drop (k * number_digits form) line)

unfoldable pub small_digits : Form → List ℕ → Bool
small_digits form bs = every (map is_digit bs) && is_small (read form bs)

unfoldable pub bits_at : Form → List ℕ → ℕ → ℕ
bits_at form line k =
    let bs = number_bytes form line k in
    cond (small_digits form bs) (four_bits (read form bs)) 16

-- The four bits of a 16-bit number by what its digits stand for, or 16: all above the lowest are 0, or all are 15.
unfoldable pub wide_bits : ℕ → ℕ → ℕ → ℕ → ℕ
wide_bits a b c d =
    cond (ltb d 8) (cond (eqb a 0 && (eqb b 0 && eqb c 0)) d 16) (cond (eqb a 15 && (eqb b 15 && eqb c 15)) d 16)

unfoldable pub wide_digits : List ℕ → ℕ
wide_digits ds = wide_bits (get_or ds 0 0) (get_or ds 1 0) (get_or ds 2 0) (get_or ds 3 0)

unfoldable pub wide_at : List ℕ → ℕ → ℕ
wide_at line at =
    wide_bits (digit_or (get_or line at 0)) (digit_or (get_or line (at + 1) 0)) (digit_or (get_or line (at + 2) 0)) (digit_or (get_or line (at + 3) 0))

-- Cell i of a line has two such numbers; a line of n cells has them all and ends.
unfoldable pub cell_test : Form → List ℕ → ℕ → Bool
cell_test form line i = ltb (bits_at form line (2 * i)) 16 && ltb (bits_at form line (2 * i + 1)) 16

unfoldable pub line_test : Form → ℕ → List ℕ → Bool
line_test form n line = every (table (cell_test form line) 0 n) && eqb (get_or line (2 * n * number_digits form) 0) LINE_FEED

unfoldable pub lines_test : Form → ℕ → ℕ → List ℕ → Bool
lines_test form n zero bs = true
lines_test form n (suc k) bs =
    line_test form n (take (2 * n * number_digits form + 1) bs) && lines_test form n k (drop (2 * n * number_digits form + 1) bs)

-- A line of as many cells as a slot has, and the slot with their bytes where the test is passed.
pub record LineLent (form : Form) (line slot : List ℕ) : Type 0 where
  pub long : length line ≡ 2 * length slot * number_digits form + 1
  pub few : length slot ≤ 6118

pub record LineTaken (form : Form) (line slot : List ℕ) (r : Bool) (after : List ℕ) : Type 0 where
  pub test : r ≡ line_test form (length slot) line
  pub cells : r ≡ true → after ≡ bytes (all_read form (2 * length slot) line)

-- k lines of n cells after a heading of three bytes, and memory with their bytes where the test is passed.
pub record LinesLent (form : Form) (n k : ℕ) (file memory : List ℕ) : Type 0 where
  pub long : length file ≡ 3 + k * (2 * n * number_digits form + 1)
  pub room : length memory ≡ k * n
  pub few : n ≤ 6118
  pub deep : k ≤ 5

pub record LinesTaken (form : Form) (n k : ℕ) (file : List ℕ) (r : Bool) (after : List ℕ) : Type 0 where
  pub test : r ≡ lines_test form n k (drop 3 file)
  pub cells : r ≡ true → after ≡ bytes (held_by form (2 * n) k (drop 3 file))

-- The heading of a file: two digits below the depth, and a line feed.
unfoldable pub heading_test : ℕ → List ℕ → Bool
heading_test depth file = ltb (digit_or (get_or file 0 0)) depth && (ltb (digit_or (get_or file 1 0)) depth && eqb (get_or file 2 0) LINE_FEED)

-- Whether a file is valid, and memory with its cells where it is.
pub record FileTaken (form : Form) (s : Settings) (file : List ℕ) (r : Bool) (after : List ℕ) : Type 0 where
  pub test : r ≡ valid form s file
  pub cells : r ≡ true → after ≡ bytes (held_in form s file).numbers
