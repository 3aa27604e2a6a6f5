-- Hexadecimal digits 0 to 9 and A to F as bytes. 02, S-7.
use Rattle.std.specs.Prelude.{ℕ, zero, suc, ◌+◌, ◌-◌, ◌*◌, ◌/◌, ◌%◌, ◌^◌, Bool, cond, ◌&&◌, ◌||◌, List, [], ◌∷◌, length, ltb, leb}

-- A digit of 0 to 15: the bytes of 0 and A are 48 and 65.
unfoldable pub digit : ℕ → ℕ
digit n = cond (ltb n 10) (48 + n) (65 + (n - 10))

-- A byte is a digit,
unfoldable pub is_digit : ℕ → Bool
is_digit b = (leb 48 b && leb b 57) || (leb 65 b && leb b 70)

-- and what it stands for.
unfoldable pub digit_value : ℕ → ℕ
digit_value b = cond (ltb b 65) (b - 48) (b - 65 + 10)

-- A number below 16^w as w digits, high digit first.
unfoldable pub digits : ℕ → ℕ → List ℕ
digits zero n = []
digits (suc w) n = digit (n / 16 ^ w) ∷ digits w (n % 16 ^ w)

-- The number of digits, high digit first.
unfoldable pub value : List ℕ → ℕ
value [] = 0
value (b ∷ bs) = digit_value b * 16 ^ length bs + value bs
