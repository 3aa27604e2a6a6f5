-- What a call that reads on hands out of the blocks and frames of its super frame. Assumes the coding's record.
use Prim.Native.Nat.{ℕ, ◌+◌, ◌-◌, ◌≤◌, ◌<◌}
use mathlib.Core.Path.{◌≡◌, sym, ap, ◌∙◌}
use mathlib.Core.Bool.{Bool, true, false, cond}
use mathlib.Core.List.{List, ◌++◌, map}
use native.Mathlib.Omega.{arith}
use lib.ListN.{length, get_or, replicate, length-append, length-replicate, get_or-append, get_or-map}
use lib.Seq.{get_or-append-add}
use lib.IntN.{ℤ}
use Rattle.lists.specs.Lists.{table}
use Rattle.lists.proofs.Tables.{length-table, table_at, table_ext, table_from, map-table}
use Rattle.block.specs.declared.Block.{Block}
use Rattle.block.specs.Reading.{given, bytes_read}
use Rattle.superframe.specs.Call.{part}
use Rattle.superframe.specs.Blocks.{kept_bytes, placed_bytes, placed_tests}
use Rattle.keptcells.specs.ReadOn.{lost_mark}
use Rattle.readonruns.specs.OnRuns.{Out, outs}
use Rattle.superframe.proofs.Lists.{part-joined}
use Rattle.superframe.proofs.Coding.{Recovers}

-- A block or frame as it is handed out, from its received cells.
unfoldable pub out_of : Block → ℕ → List ℤ → Out
out_of k n cells = record { lost = lost_mark (given k cells); bytes = kept_bytes k n cells }

pub kept_long : {k : Block} {n : ℕ} → Recovers k n → (cells : List ℤ) → length (kept_bytes k n cells) ≡ n
unfolding kept_bytes
kept_long {k} {n} r cells = go (given k cells)
  where
    go : (b : Bool) → length (cond b (bytes_read k cells) (replicate n 0)) ≡ n
    go true = r.long cells
    go false = length-replicate n 0

-- m blocks from a on, read into their places: cut again, and with the marks of their tests, they are as they are handed out.
module _ (k : Block) (n : ℕ) (r : Recovers k n) (cells : ℕ → List ℤ) (a m : ℕ) where
  placed-part : (i : ℕ) → i < m → part n (placed_bytes k n (table cells a m)) i ≡ kept_bytes k n (cells (a + i))
  unfolding placed_bytes
  placed-part i h =
      rw (map-table (kept_bytes k n) cells a m)
      (part-joined n (λ i. kept_bytes k n (cells i)) a m (λ i x y. kept_long r (cells i)) _ i h)

  pub test_at : (i : ℕ) → i < m → get_or (placed_tests k (table cells a m)) i true ≡ given k (cells (a + i))
  unfolding placed_tests
  test_at i h =
      rw (map-table (given k) cells a m)
      (get_or-append (table (λ i. given k (cells i)) a m) _ true i (rw (length-table (λ i. given k (cells i)) a m) h)
      ∙ table_at (λ i. given k (cells i)) a m i true h)

  pub tests_long : m ≤ 3 → length (placed_tests k (table cells a m)) ≡ 3
  unfolding placed_tests
  tests_long h =
      rw (map-table (given k) cells a m, length-append, length-table (λ i. given k (cells i)) a m, length-table cells a m, length-replicate (3 - m) true)
      (omega arith)

  pub placed-outs : (bytes marks : List ℕ) (at : ℕ) → bytes ≡ placed_bytes k n (table cells a m)
      → ((i : ℕ) → i < m → get_or marks (at + i) 0 ≡ lost_mark (given k (cells (a + i))))
      → outs n bytes marks at m ≡ table (λ i. out_of k n (cells i)) a m
  unfolding outs out_of
  placed-outs bytes marks at e marked =
      table_ext _ _ 0 m (λ i x y. rw (e, marked i (omega arith), placed-part i (omega arith)))
      ∙ sym (table_from (λ i. out_of k n (cells i)) a m)

-- The marks of tests one after the other.
mark_at_lem : (tests : List Bool) (i : ℕ) → get_or (map lost_mark tests) i 0 ≡ lost_mark (get_or tests i true)
unfolding lost_mark
mark_at_lem tests i = get_or-map lost_mark tests i true

pub mark_first : (one two : List Bool) (i : ℕ) → i < length one → get_or (map lost_mark (one ++ two)) i 0 ≡ lost_mark (get_or one i true)
mark_first one two i h = mark_at_lem (one ++ two) i ∙ ap lost_mark (get_or-append one two true i h)

pub mark_next : (one two : List Bool) (i : ℕ) → get_or (map lost_mark (one ++ two)) (length one + i) 0 ≡ lost_mark (get_or two i true)
mark_next one two i = mark_at_lem (one ++ two) (length one + i) ∙ ap lost_mark (get_or-append-add one two i true)
