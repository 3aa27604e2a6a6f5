-- Patterns as the code holds them: nothing of 01 or 02 is stated here.
use Rattle.std.specs.Prelude.{ℕ, ◌+◌, ◌-◌, ◌*◌, ◌≤◌, List, ◌++◌, length, get_or, take, replicate}
use Rattle.patterns.specs.declared.Pattern.{Pattern}
use Rattle.patterns.specs.Patterns.{Sound}

-- The columns of a pattern, filled up with zeros to eight.
unfoldable pub padded : List ℕ → List ℕ
padded p = p ++ replicate (8 - length p) 0

-- A pattern as the code holds it, and the pattern that it holds.
unfoldable pub pattern_from : List ℕ → Pattern
pattern_from p = record { columns = padded p; width = length p }

unfoldable pub pattern_of : Pattern → List ℕ
pattern_of p = take p.width p.columns

-- A column from its numbers, which stand a row's width apart.
unfoldable pub column_from : List ℕ → ℕ → ℕ → ℕ
column_from kept at width =
    get_or kept at 0 + 2 * get_or kept (at + width) 0 + 4 * (get_or kept (at + 2 * width) 0 + 2 * get_or kept (at + 3 * width) 0)

-- A sound pattern is held.
pub record Held (p : Pattern) : Type 0 where
  pub sound : Sound (pattern_of p)
  pub there : p.width ≤ length p.columns
