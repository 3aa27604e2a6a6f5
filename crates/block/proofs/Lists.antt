-- Laws of lists of bits. Assumes nothing.
use Prim.Native.Nat.{ℕ, ◌+◌, ◌≤◌, ◌<◌}
use mathlib.Core.Logic.{◌⊎◌, inl, inr}
use mathlib.Core.List.{List}
use native.Mathlib.Omega.{arith}
use lib.ListN.{get_or, take, length-take, get_or-eq_default}
use lib.Seq.{get_or-take}
use Rattle.lists.specs.Lists.{table}
use Rattle.component.specs.Bits.{Bits}
use Rattle.lists.proofs.Counting.{below_or}
use Rattle.lists.proofs.Tables.{length-table, table_at}

-- a table of bits is bits
pub bits-table : (f : ℕ → ℕ) (k n : ℕ) → ((i : ℕ) → f i < 2) → Bits (table f k n)
bits-table f k n h = record { bit = λ i. go i (below_or i n) }
  where
    go : (i : ℕ) → (i < n) ⊎ (n ≤ i) → get_or (table f k n) i 0 < 2
    go i (inl a) = rw (table_at f k n i 0 a) (h (k + i))
    go i (inr a) = rw (get_or-eq_default (table f k n) 0 {n = i} (rw (length-table f k n) a)) (omega arith)

-- the first of some bits
pub bits-take : {l : List ℕ} (n : ℕ) → Bits l → Bits (take n l)
bits-take {l} n H = record { bit = λ i. go i (below_or i n) }
  where
    go : (i : ℕ) → (i < n) ⊎ (n ≤ i) → get_or (take n l) i 0 < 2
    go i (inl a) = rw (get_or-take n l i 0 a) (H.bit i)
    go i (inr a) = rw (get_or-eq_default (take n l) 0 {n = i} (rw length-take (omega arith))) (omega arith)
