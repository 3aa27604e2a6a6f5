-- `nearest`: a line of 130 received bits to the line of an FAC block. 02, S-9.
use Rattle.std.specs.Prelude.{ℕ, cond, List, ◌++◌, length, get_or, replicate, eqb}
use Rattle.lists.specs.Lists.{table}
use Rattle.line.specs.Written.{decimal, space, line_end}
use Rattle.superframe.specs.Call.{fac_bytes, fac_numbers}
use Rattle.nearest.specs.Fac.{NearestYield, nearest_of}
use Rattle.turns.specs.Yield.{MadeYield, through, bad}
use Rattle.numerals.specs.Digits.{hex_digits}

-- 130 characters, 0, 1 or ? (bytes 48, 49, 63) for unknown. 02, S-9: each received value is 0, 1 or 2; any other character is 3, which the call refuses.
unfoldable pub value_of : ℕ → ℕ
value_of byte = cond (eqb byte 48) 0 (cond (eqb byte 49) 1 (cond (eqb byte 63) 2 3))

unfoldable pub values_in : List ℕ → List ℕ
values_in line = table (λ i. value_of (get_or line i 0)) 0 (length line)

-- Eighteen hexadecimal digits of the block, a space, and the number of disagreements.
unfoldable pub block_line : List ℕ → ℕ → List ℕ
block_line block count = hex_digits block ++ space ++ decimal count ++ line_end

unfoldable pub nearest_said : NearestYield → List ℕ → MadeYield
nearest_said y out = cond (eqb y.answer 0) (through (block_line y.block (get_or y.count 0 0)) out) (bad out)

unfoldable pub nearest_line : List ℕ → List ℕ → MadeYield
nearest_line line out =
    cond (eqb (length line) fac_numbers) (nearest_said (nearest_of (values_in line) (replicate fac_bytes 0) (replicate 1 0)) out) (bad out)
