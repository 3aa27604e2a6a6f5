-- DESCRIPTION, the third argument of `desk mux` and `desk demux`: decimal numbers joined by commas, two for each of one to four streams, each below 65,536.
use Rattle.std.specs.Prelude.{ℕ, ◌+◌, ◌-◌, ◌*◌, Bool, true, false, cond, ◌&&◌, Option, Some, None, List, [], ◌∷◌, length, get_or, set, replicate, ltb, eqb}
use Rattle.numerals.specs.Numbers.{is_digit}
use Rattle.multiplex.specs.Description.{described}
use Rattle.muxjobs.specs.declared.Description.{Description}
use Rattle.muxjobs.specs.declared.argument.Reading.{Reading}

-- A number with a digit more stands in the place of the number at hand; one of 65,536 or more makes the word no description, and so does a byte out of place.
unfoldable pub spoilt : Reading → Reading
spoilt c = record { values = c.values; at = c.at; digit = c.digit; good = false }

unfoldable pub placed : Reading → ℕ → Reading
placed c n = record { values = set c.values c.at n; at = c.at; digit = true; good = c.good }

unfoldable pub with_digit : Reading → ℕ → Reading
with_digit c digit =
    cond (ltb (10 * get_or c.values c.at 0 + digit) 65536) (placed c (10 * get_or c.values c.at 0 + digit)) (spoilt c)

-- A comma (44) behind a digit begins the next of at most eight numbers.
unfoldable pub with_comma : Reading → Reading
with_comma c = record { values = c.values; at = c.at + 1; digit = false; good = c.good }

unfoldable pub read : Reading → ℕ → Reading
read c byte =
    cond (is_digit byte) (with_digit c (byte - 48)) (cond (eqb byte 44 && (c.digit && ltb c.at 7)) (with_comma c) (spoilt c))

-- Byte after byte.
unfoldable pub read_from : Reading → List ℕ → Reading
read_from c [] = c
read_from c (byte ∷ word) = read_from (read c byte) word

unfoldable pub read_word : List ℕ → Reading
read_word word = read_from (record { values = replicate 8 0; at = 0; digit = false; good = true }) word

-- A word of 64 bytes or more may be a part of a longer one: the program holds no more.
unfoldable pub is_description : List ℕ → Reading → Bool
is_description word c = ltb (length word) 64 && ((c.good && c.digit) && described (c.at + 1))

-- The numbers of a word; none where it is no description.
unfoldable pub description_of : List ℕ → Description
description_of word =
    record { values = (read_word word).values; count = cond (is_description word (read_word word)) ((read_word word).at + 1) 0 }

-- The description that a word is: none where it has no number.
unfoldable pub description_in : List ℕ → Option Description
description_in word = cond (eqb (description_of word).count 0) None (Some (description_of word))
