-- Hold files: position, count and the interleaving memory as lines of hexadecimal. 02, S-7.
use Rattle.std.specs.Prelude.{ℕ, zero, suc, ◌+◌, ◌*◌, ◌^◌, Bool, ◌&&◌, List, [], ◌∷◌, ◌++◌, map, length, get_or, take, drop, replicate, ℤ, eqb, ltb}
use Rattle.lists.specs.Bools.{every}
use Rattle.settings.specs.declared.Settings.{Settings}
use Rattle.settings.specs.Lengths.{n_mux}
use Rattle.settings.specs.Sizes.{depth}
use Rattle.block.specs.Mapping.{constellation}
use Rattle.block.specs.Points.{are_points}
use Rattle.channels.specs.Msc.{msc_constellation}
use Rattle.cellbytes.specs.TwosComplement.{modulo, twos_complement}
use Rattle.holdlines.specs.declared.Form.{Form}
use Rattle.holdlines.specs.declared.Form.TheVariants.{Old, New}
use Rattle.holdlines.specs.Hexadecimal.{digit, is_digit, digit_value, digits, value}

-- Digits of a number: four of a 16-bit one in the old form, one of a 4-bit one in the new.
unfoldable pub number_digits : Form → ℕ
number_digits Old = 4
number_digits New = 1

-- A number in two's complement as its digits, and back.
unfoldable pub written : Form → ℤ → List ℕ
written form v = digits (number_digits form) (modulo (16 ^ number_digits form) v)

unfoldable pub read : Form → List ℕ → ℤ
read form bytes = twos_complement (16 ^ number_digits form) (value bytes)

-- Numbers one after the other, and the first n numbers of some digits.
unfoldable pub all_written : Form → List ℤ → List ℕ
all_written form [] = []
all_written form (v ∷ vs) = written form v ++ all_written form vs

unfoldable pub all_read : Form → ℕ → List ℕ → List ℤ
all_read form zero bytes = []
all_read form (suc n) bytes = read form (take (number_digits form) bytes) ∷ all_read form n (drop (number_digits form) bytes)

-- The line feed that ends each line.
abbrev pub LINE_FEED : ℕ
LINE_FEED = 10

unfoldable pub ended : List ℕ → List ℕ
ended line = line ++ (LINE_FEED ∷ [])

-- One frame a line: lines of n numbers each, and what k such lines hold.
unfoldable pub lines_of : Form → ℕ → ℕ → List ℤ → List ℕ
lines_of form n zero vs = []
lines_of form n (suc k) vs = ended (all_written form (take n vs)) ++ lines_of form n k (drop n vs)

unfoldable pub held_by : Form → ℕ → ℕ → List ℕ → List ℤ
held_by form n zero bytes = []
held_by form n (suc k) bytes =
    all_read form n (take (n * number_digits form) bytes) ++ held_by form n k (drop (n * number_digits form + 1) bytes)

-- What a file holds: position, count, and the numbers of memory's cells, slot 0 first.
pub record Held : Type 0 where
  pub position : ℕ
  pub count : ℕ
  pub numbers : List ℤ

-- The file: a line of two digits, position and count, then a line for each slot.
unfoldable pub file_of : Form → Settings → Held → List ℕ
file_of form s h =
    ended (digit h.position ∷ digit h.count ∷ []) ++ lines_of form (2 * n_mux s) (depth s) h.numbers

unfoldable pub held_in : Form → Settings → List ℕ → Held
held_in form s file =
    record {
      position = digit_value (get_or file 0 0);
      count = digit_value (get_or file 1 0);
      numbers = held_by form (2 * n_mux s) (depth s) (drop 3 file);
    }

-- How many bytes it has.
unfoldable pub file_length : Form → Settings → ℕ
file_length form s = 3 + depth s * (2 * n_mux s * number_digits form + 1)

-- n digits and a line feed.
unfoldable pub is_line : ℕ → List ℕ → Bool
is_line n line = eqb (length line) (n + 1) && (every (map is_digit (take n line)) && eqb (get_or line n 0) LINE_FEED)

-- Lines of these lengths, no more and no fewer, and nothing after the last line feed.
unfoldable pub are_lines : List ℕ → List ℕ → Bool
are_lines [] file = eqb (length file) 0
are_lines (n ∷ ns) file = is_line n (take (n + 1) file) && are_lines ns (drop (n + 1) file)

-- What may be held: a position and a count that 12 lets pass, and MSC points.
unfoldable pub holds : Settings → Held → Bool
holds s h =
    ltb h.position (depth s)
    && (ltb h.count (depth s) && are_points (constellation (msc_constellation s.msc)) h.numbers)

-- A file of a form under some settings; every other one is refused by 18.
unfoldable pub valid : Form → Settings → List ℕ → Bool
valid form s file =
    are_lines (2 ∷ replicate (depth s) (2 * n_mux s * number_digits form)) file && holds s (held_in form s file)
