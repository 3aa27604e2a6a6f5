-- What the functions of this crate require and promise: nothing of the papers is stated here.
use Rattle.std.specs.Prelude.{ℕ, ◌+◌, ◌-◌, ◌*◌, ◌<◌, ◌≡◌, true, false, cond, ◌&&◌, Option, Some, None, is_some, IfSome, List, map, get_or, set, ltb, eqb}
use Rattle.numerals.specs.declared.numbers.Scan.{Scan}
use Rattle.numerals.specs.Numbers.{is_digit, goes_on, numbers_in}

-- A number in 32 bits; above them it is the greatest.
unfoldable pub held : ℕ → ℕ
held n = cond (ltb n 4294967295) n 4294967295

-- The place of the number at hand.
pub record Kept (c : Scan) : Type 0 where
  pub low : c.at < 14

-- One byte of a line: the numbers as far as they are read then, none where the byte is out of place.
unfoldable pub with_digit : Scan → ℕ → Scan
with_digit c d = record { values = set c.values c.at (held (10 * get_or c.values c.at 0 + d)); at = c.at; digit = true }

unfoldable pub with_space : Scan → Scan
with_space c = record { values = c.values; at = c.at + 1; digit = false }

unfoldable pub stepped : Scan → ℕ → Option Scan
stepped c b =
    cond (is_digit b) (Some (with_digit c (b - 48))) (cond (eqb b 32 && (c.digit && ltb c.at 13)) (Some (with_space c)) None)

-- A line that is read: whether it is fourteen numbers, and if so which.
pub record Scanned (line : List ℕ) (found : Option (List ℕ)) : Type 0 where
  pub whole : is_some found ≡ goes_on 13 false line
  pub numbers : IfSome found (λ values. values ≡ map held (numbers_in line))
