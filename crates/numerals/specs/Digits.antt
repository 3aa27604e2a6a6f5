-- Bytes in hexadecimal, 0 to 9 and A to F, two digits each, the high one first.
use Rattle.std.specs.Prelude.{ℕ, ◌*◌, ◌/◌, ◌%◌, Bool, cond, ◌&&◌, List, length, get_or, eqb}
use Rattle.lists.specs.Lists.{table}
use Rattle.line.specs.Read.{digits, byte_at}
use Rattle.line.specs.Written.{glyph}

unfoldable pub hex_digit : ℕ → ℕ → ℕ
hex_digit byte half = glyph (cond (eqb half 0) (byte / 16) (byte % 16))

unfoldable pub hex_digits : List ℕ → List ℕ
hex_digits bytes = table (λ k. hex_digit (get_or bytes (k / 2) 0) (k % 2)) 0 (2 * length bytes)

-- A line is the digits of so many bytes, and which bytes they are.
unfoldable pub are_hex : ℕ → List ℕ → Bool
are_hex count line = eqb (length line) (2 * count) && digits line 0 (length line)

unfoldable pub bytes_in : ℕ → List ℕ → List ℕ
bytes_in count line = table (byte_at line) 0 count
