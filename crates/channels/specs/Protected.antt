-- Levels of the standard protected part. 01 "Lengths" and "Component code"; 001 clauses 7.2.1.1 and 7.3.2.
use Rattle.std.specs.Prelude.{ℕ, List, [], ◌∷◌, get_or, drop}
use Rattle.patterns.specs.Patterns.{pattern, tail_pattern}
use Rattle.patterns.specs.Clauses.{pattern_from}
use Rattle.partlengths.specs.Formulas.{bits_a, bits_b, remainder}
use Rattle.block.specs.declared.Level.{Level}

-- A level, punctured by a table: w coded bits a cell, N1 cells at the rate of part A, N2 at that of part B, and t.
unfoldable pub protected_level : List ℕ → ℕ → ℕ → ℕ → ℕ → ℕ → ℕ → Level
protected_level kept w cells1 cells2 rate_a rate_b t =
    record {
      bitsa = bits_a w cells1 rate_a;
      bitsb = bits_b w cells2 rate_b;
      patterna = pattern_from (pattern kept rate_a);
      patternb = pattern_from (pattern kept rate_b);
      tail = pattern_from (tail_pattern (remainder w cells2 rate_b));
      t = t;
    }

-- Levels by their rates in both parts, with t from a list in the same order.
unfoldable pub protected_levels : List ℕ → ℕ → ℕ → ℕ → List ℕ → List ℕ → List ℕ → List Level
protected_levels kept w cells1 cells2 [] rates_b ts = []
protected_levels kept w cells1 cells2 (rate_a ∷ rates_a) rates_b ts =
    protected_level kept w cells1 cells2 rate_a (get_or rates_b 0 0) (get_or ts 0 0)
    ∷ protected_levels kept w cells1 cells2 rates_a (drop 1 rates_b) (drop 1 ts)
