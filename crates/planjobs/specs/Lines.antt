-- A line of a plan's file: FIRST AFTER SETTINGS, minutes in decimal, settings in twenty digits, single spaces between. 02, S-12.
use Rattle.std.specs.Prelude.{ℕ, suc, ◌+◌, ◌-◌, ◌*◌, ◌/◌, ◌%◌, Bool, cond, ◌&&◌, List, [], ◌∷◌, length, get_or, drop, eqb, ltb}
use Rattle.lists.specs.Lists.{table}
use Rattle.line.specs.Read.{digits, byte_at}
use Rattle.numerals.specs.Numbers.{is_digit}
use Rattle.numerals.specs.Clauses.{held}
use Rattle.planjobs.specs.declared.Number.{Number}

-- A minute that two bytes do not hold counts as the greatest of them, as a number that 32 bits do not hold; no plan has such a minute or super frame.
unfoldable pub minute_of : ℕ → ℕ
minute_of n = cond (ltb n 65535) n 65535

-- It stands in two bytes, high byte first.
abbrev pub minute_bytes : ℕ → List ℕ
minute_bytes n = minute_of n / 256 ∷ minute_of n % 256 ∷ []

-- The digits from a place on, behind those of a value.
unfoldable pub scanned : ℕ → ℕ → List ℕ → Number
scanned value next [] = record { value = value; next = next }
scanned value next (b ∷ l) =
    cond (is_digit b) (scanned (held (10 * value + (b - 48))) (suc next) l) (record { value = value; next = next })

unfoldable pub number_in : List ℕ → ℕ → Number
number_in line from = scanned 0 from (drop from line)

-- The two minutes of a line, and where its settings begin.
unfoldable pub first_in : List ℕ → Number
first_in line = number_in line 0

unfoldable pub after_in : List ℕ → Number
after_in line = number_in line ((first_in line).next + 1)

unfoldable pub settings_from : List ℕ → ℕ
settings_from line = (after_in line).next + 1

-- Both minutes have a digit, a space follows each, and twenty hexadecimal digits end the line. A line of 256 bytes or more may be a part of one:
-- the buffer has no more.
unfoldable pub is_rule : List ℕ → Bool
is_rule line =
    ltb (length line) 256
    && (ltb 0 (first_in line).next
    && (eqb (get_or line (first_in line).next 0) 32
    && (ltb ((first_in line).next + 1) (after_in line).next
    && (eqb (get_or line (after_in line).next 0) 32
    && (eqb (length line) (settings_from line + 20) && digits (drop (settings_from line) line) 0 20)))))

-- Byte k of the rule's fourteen: the minutes, each two bytes, high byte first, and the ten bytes of the settings' digits.
unfoldable pub rule_byte : ℕ → ℕ → List ℕ → ℕ → ℕ
rule_byte first after settings k =
    cond (ltb k 4) (get_or (minute_of first / 256 ∷ minute_of first % 256 ∷ minute_of after / 256 ∷ minute_of after % 256 ∷ []) k 0) (byte_at settings (k - 4))

unfoldable pub rule_in : List ℕ → List ℕ
rule_in line = table (rule_byte (first_in line).value (after_in line).value (drop (settings_from line) line)) 0 14
