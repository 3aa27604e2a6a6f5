-- A table that a laboratory loads. 02 S-11.
use Rattle.std.specs.Prelude.{ℕ, ◌*◌, ◌≡◌, Bool, true, ◌&&◌, List, length, get_or, eqb, ltb}
use Rattle.lists.specs.Lists.{table, total}
use Rattle.lists.specs.Bools.{every}
use Rattle.patterns.specs.Patterns.{RX, RY, begins, entry}

-- The numbers of a table.
abbrev pub table_size : ℕ
table_size = 196

-- The numbers of a rate: its four rows.
unfoldable pub numbers_of : List ℕ → ℕ → List ℕ
numbers_of kept rate = table (λ k. get_or kept k 0) (begins rate) (4 * RX rate)

-- Each B0 is all ones, and the ones of a rate number its denominator.
unfoldable pub rate_passes : List ℕ → ℕ → Bool
rate_passes kept rate =
    every (table (λ i. eqb (entry kept rate 0 i) 1) 0 (RX rate)) && eqb (total (numbers_of kept rate)) (RY rate)

-- A table of 196 numbers passes exactly if every entry is 0 or 1, each B0 is all ones and the ones of each rate number its denominator.
unfoldable pub passes : List ℕ → Bool
passes kept =
    eqb (length kept) table_size
    && (every (table (λ k. ltb (get_or kept k 0) 2) 0 table_size)
    && every (table (rate_passes kept) 0 13))

-- A table that passes.
pub record Allowed (kept : List ℕ) : Type 0 where
  pub passed : passes kept ≡ true
