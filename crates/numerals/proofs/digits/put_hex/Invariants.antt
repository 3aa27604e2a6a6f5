use Rattle.std.proofs.Common.{◌≡◌, ◌+◌, ◌-◌, ◌*◌, ◌≤◌, ◌++◌, length}
use Rattle.numerals.specs.Digits.{hex_digits}
use Rattle.numerals.proofs.Hex.{digits_from}
use Rattle.numerals.proofs.digits.put_hex.Given as goal

abbrev pub invariant-loop-byte : goal.invariant-loop-byte
invariant-loop-byte l =
    (l.text ++ digits_from l.bytes l.byte-index ≡ l.initial.text ++ hex_digits l.bytes) × (length l.text + 2 * (length l.bytes - l.byte-index) ≤ 1024)
