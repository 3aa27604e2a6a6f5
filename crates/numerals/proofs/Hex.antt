-- Digits of bytes one by one. Assumes nothing.
use mathlib.Core.Bool.{true}
use native.Mathlib.Nat.{sub-zero}
use native.Mathlib.Omega.{arith}
use borrow.Author.Tests.{eqb-true}
use lib.Dec.{eqb}
use Rattle.lists.proofs.Bools.{and_left, and_right}
use Rattle.line.specs.Read.{digits}
use Rattle.line.specs.Clauses.{HexByte}
use Rattle.line.proofs.Digits.{hex_byte}
use Prim.Native.Nat.{ℕ, suc, ◌+◌, ◌-◌, ◌*◌, ◌/◌, ◌%◌, ◌≤◌, ◌<◌}
use mathlib.Core.Path.{◌≡◌}
use mathlib.Core.List.{List, [], ◌∷◌}
use lib.ListN.{length, get_or}
use Rattle.lists.proofs.Tables.{length-table}
use Rattle.lists.specs.Lists.{table}
use Rattle.numerals.specs.Digits.{hex_digit, hex_digits, are_hex}

pub digits_long : (bytes : List ℕ) → length (hex_digits bytes) ≡ 2 * length bytes
unfolding hex_digits
digits_long bytes = length-table (λ k. hex_digit (get_or bytes (k / 2) 0) (k % 2)) 0 (2 * length bytes)

-- The digits of the bytes from byte k on.
abbrev pub digits_from : List ℕ → ℕ → List ℕ
digits_from bytes k = table (λ j. hex_digit (get_or bytes (j / 2) 0) (j % 2)) (2 * k) (2 * (length bytes - k))

pub digits_all : (bytes : List ℕ) → digits_from bytes 0 ≡ hex_digits bytes
unfolding hex_digits
digits_all bytes = rw (sub-zero (length bytes))

pub digits_more : (bytes : List ℕ) (k : ℕ) → k < length bytes
    → digits_from bytes k ≡ hex_digit (get_or bytes k 0) 0 ∷ hex_digit (get_or bytes k 0) 1 ∷ digits_from bytes (k + 1)
unfolding table
digits_more bytes k h =
    let n : 2 * (length bytes - k) ≡ suc (suc (2 * (length bytes - (k + 1)))) = omega arith in
    let a : 2 * k / 2 ≡ k = omega arith in
    let b : suc (2 * k) / 2 ≡ k = omega arith in
    let c : 2 * k % 2 ≡ 0 = omega arith in
    let d : suc (2 * k) % 2 ≡ 1 = omega arith in
    let e : suc (suc (2 * k)) ≡ 2 * (k + 1) = omega arith in
    rw (n, a, b, c, d, e)

pub digits_none : (bytes : List ℕ) (k : ℕ) → length bytes ≤ k → digits_from bytes k ≡ []
unfolding table
digits_none bytes k h =
    let n : 2 * (length bytes - k) ≡ 0 = omega arith in
    rw n

-- A line of digits has those of each byte.
pub hex_there : (line : List ℕ) (count k : ℕ) → are_hex count line ≡ true → k < count → HexByte line k
unfolding are_hex
hex_there line count k e h =
    let n = eqb-true (length line) (2 * count) (and_left (eqb (length line) (2 * count)) (digits line 0 (length line)) e) in
    hex_byte line (length line) k (and_right (eqb (length line) (2 * count)) (digits line 0 (length line)) e) (omega arith) (omega arith)
