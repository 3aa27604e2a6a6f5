-- BYTES, the third argument of `desk fit`: a decimal number below 2^32.
use Rattle.std.specs.Prelude.{ℕ, ◌+◌, ◌-◌, ◌*◌, Bool, true, false, cond, ◌&&◌, Option, Some, None, List, [], ◌∷◌, length, ltb}
use Rattle.numerals.specs.Numbers.{is_digit}
use Rattle.fitjobs.specs.declared.Count.{Count}

-- A byte behind the digits before it: one that is no digit, or that makes a number of 2^32 or more, makes the word none.
unfoldable pub with_digit : Count → ℕ → Count
with_digit c n = cond (ltb n 4294967296) (record { value = n; good = c.good }) (record { value = c.value; good = false })

unfoldable pub with_byte : Count → ℕ → Count
with_byte c byte = cond (is_digit byte) (with_digit c (10 * c.value + (byte - 48))) (record { value = c.value; good = false })

-- Byte after byte.
unfoldable pub count_from : Count → List ℕ → Count
count_from c [] = c
count_from c (byte ∷ word) = count_from (with_byte c byte) word

unfoldable pub count_in : List ℕ → Count
count_in word = count_from (record { value = 0; good = true }) word

-- At least one digit. A word of 32 bytes or more may be a part of a longer one: the program holds no more.
unfoldable pub is_count : List ℕ → Bool
is_count word = (count_in word).good && (ltb 0 (length word) && ltb (length word) 32)

-- The number of a word that is read.
unfoldable pub counted : Count → Option ℕ
counted c = cond c.good (Some c.value) None
