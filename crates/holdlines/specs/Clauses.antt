-- What functions inside a call require and find: nothing of 02 is stated here.
use Rattle.std.specs.Prelude.{ℕ, cond, ltb, Option, Some, None}
use Rattle.holdlines.specs.Hexadecimal.{is_digit, digit_value}

-- What a byte stands for as a digit; 16 where it is none.
unfoldable pub digit_or : ℕ → ℕ
digit_or b = cond (is_digit b) (digit_value b) 16

-- A number below 16 as the code finds it, and none for any other. `line` has the same of its own digits: neither crate is built on the other, and what both
-- are built on knows no digits.
unfoldable pub found : ℕ → Option ℕ
found n = cond (ltb n 16) (Some n) None
