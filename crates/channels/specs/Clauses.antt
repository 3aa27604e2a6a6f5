-- What the functions that make blocks require and promise: nothing of 01 is stated here.
use Rattle.std.specs.Prelude.{ℕ, ◌%◌, List}
use Rattle.patterns.specs.Patterns.{RY, pattern, tail_pattern}
use Rattle.patterns.specs.Clauses.{pattern_from}
use Rattle.partlengths.specs.Clauses.{share}
use Rattle.block.specs.declared.Level.{Level}

-- A level from its coded bits in part A, those in part B without the twelve that its tail takes at least, the rates of both, and t.
unfoldable pub level_by : List ℕ → ℕ → ℕ → ℕ → ℕ → ℕ → Level
level_by kept coded_a coded_b rate_a rate_b t =
    record {
      bitsa = share coded_a rate_a;
      bitsb = share coded_b rate_b;
      patterna = pattern_from (pattern kept rate_a);
      patternb = pattern_from (pattern kept rate_b);
      tail = pattern_from (tail_pattern (coded_b % RY rate_b));
      t = t;
    }
