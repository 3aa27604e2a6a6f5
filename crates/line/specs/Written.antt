-- What the lengths program prints. 01 "Cases", the lengths program.
use Rattle.std.specs.Prelude.{ℕ, zero, suc, ◌+◌, ◌/◌, ◌%◌, cond, List, [], ◌∷◌, ◌++◌, ltb, eqb, Option, Some, None}
use Rattle.settings.specs.declared.Settings.{Settings}
use Rattle.settings.specs.Lengths.{LengthsYield, lengths_of}
use Rattle.line.specs.Read.{parse_of}

-- The byte of a hexadecimal digit: 0 to 9, then A to F.
unfoldable pub glyph : ℕ → ℕ
glyph n = cond (ltb n 10) (48 + n) (55 + n)

-- Four hexadecimal digits.
unfoldable pub group : ℕ → List ℕ
group n = glyph (n / 4096 % 16) ∷ glyph (n / 256 % 16) ∷ glyph (n / 16 % 16) ∷ glyph (n % 16) ∷ []

-- A number in decimal, of at most so many digits.
unfoldable pub decimal_by : ℕ → ℕ → List ℕ
decimal_by zero n = []
decimal_by (suc f) n = cond (ltb n 10) ((48 + n) ∷ []) (decimal_by f (n / 10) ++ ((48 + n % 10) ∷ []))

-- A number of at most 64 binary digits in decimal: it has at most twenty digits.
unfoldable pub decimal : ℕ → List ℕ
decimal n = decimal_by 20 n

-- A space and a line feed.
unfoldable pub space : List ℕ
space = 32 ∷ []

unfoldable pub line_end : List ℕ
line_end = 10 ∷ []

-- N1, N2, L1, L2, L_VSPP.
unfoldable pub groups : LengthsYield → List ℕ
groups l =
    group l.n1 ++ (space ++ (group l.n2 ++ (space ++ (group l.l1 ++ (space ++ (group l.l2 ++ (space ++ (group l.vspp ++ line_end))))))))

-- One line: the five lengths, or for a refusal its number in decimal.
unfoldable pub written : LengthsYield → List ℕ
written l = cond (eqb l.refusal 0) (groups l) (decimal l.refusal ++ line_end)

-- `bad line`
unfoldable pub bad_line : List ℕ
bad_line = 98 ∷ 97 ∷ 100 ∷ 32 ∷ 108 ∷ 105 ∷ 110 ∷ 101 ∷ 10 ∷ []

-- The answer to a line.
unfoldable pub answer_to : Option Settings → List ℕ
answer_to (Some s) = written (lengths_of s)
answer_to None = bad_line

unfoldable pub answer_of : List ℕ → List ℕ
answer_of bytes = answer_to (parse_of bytes)
