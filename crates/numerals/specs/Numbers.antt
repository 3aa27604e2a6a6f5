-- Fourteen decimal numbers in a line, separated by single spaces.
use Rattle.std.specs.Prelude.{ℕ, ◌+◌, ◌-◌, ◌*◌, Bool, true, false, cond, ◌&&◌, List, [], ◌∷◌, ◌++◌, length, get_or, set, replicate, ltb, leb, eqb}
use Rattle.line.specs.Written.{decimal, space, line_end}

-- A digit: bytes 48 to 57.
unfoldable pub is_digit : ℕ → Bool
is_digit byte = leb 48 byte && ltb byte 58

-- Whether a line goes on as it must: `more` numbers follow the one at hand, and `digit` says whether that one has a digit. A space is byte 32.
unfoldable pub goes_on : ℕ → Bool → List ℕ → Bool
goes_on more digit [] = digit && eqb more 0
goes_on more digit (b ∷ line) =
    cond (is_digit b) (goes_on more true line) (eqb b 32 && (digit && (ltb 0 more && goes_on (more - 1) false line)))

-- Fourteen numbers. A line of 256 bytes or more may be a part of one: the buffer has no more.
unfoldable pub are_numbers : List ℕ → Bool
are_numbers line = ltb (length line) 256 && goes_on 13 false line

-- What they are: a digit goes behind those of number k, a space begins the next.
unfoldable pub numbers_from : List ℕ → ℕ → List ℕ → List ℕ
numbers_from numbers k [] = numbers
numbers_from numbers k (b ∷ line) =
    cond (is_digit b) (numbers_from (set numbers k (10 * get_or numbers k 0 + (b - 48))) k line) (numbers_from numbers (k + 1) line)

unfoldable pub numbers_in : List ℕ → List ℕ
numbers_in line = numbers_from (replicate 14 0) 0 line

-- The line of some numbers.
unfoldable pub numbers_rest : List ℕ → List ℕ
numbers_rest [] = line_end
numbers_rest (n ∷ numbers) = space ++ decimal n ++ numbers_rest numbers

unfoldable pub numbers_line : List ℕ → List ℕ
numbers_line [] = line_end
numbers_line (n ∷ numbers) = decimal n ++ numbers_rest numbers
