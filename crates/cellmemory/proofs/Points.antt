-- The tests of refusals 12 and 13 are the one test of points: memory, a sent row, FAC and SDC cells. Assumes nothing.
use mathlib.Core.Path.{◌≡◌, ap}
use mathlib.Core.Bool.{Bool, false, not}
use mathlib.Core.List.{List}
use mathlib.Core.Logic.{◌⊎◌, inl, inr}
use Prim.Native.Nat.{ℕ, ◌*◌, ◌/◌, ◌%◌, ◌≤◌, ◌<◌}
use native.Mathlib.Nat.{mod-one}
use native.Mathlib.Omega.{arith}
use borrow.Author.Tests.{lt-ltb, le-ltb, le-leb, lt-leb}
use lib.ListN.{length}
use lib.IntN.{ℤ}
use lib.Dec.{leb, ltb}
use Rattle.lists.specs.Lists.{table}
use Rattle.lists.specs.Bools.{every}
use Rattle.lists.proofs.Counting.{below_or}
use Rattle.lists.proofs.Tables.{table_ext}
use Rattle.channels.specs.declared.Scheme.{Scheme}
use Rattle.settings.specs.Lengths.{n_mux}
use Rattle.settings.specs.Sizes.{depth}
use Rattle.block.specs.declared.Constellation.{Constellation}
use Rattle.block.specs.declared.Constellation.TheVariants.{Qam4}
use Rattle.block.specs.Points.{is_empty, are_points}
use Rattle.block.specs.Block.{points_of}
use Rattle.pointtests.specs.declared.PointTest.{PointTest}
use Rattle.cellbytes.specs.CellBytes.{numbers}
use Rattle.cellbytes.proofs.CellBytes.{length-numbers, real_at, imaginary_at}
use Rattle.pointtests.specs.PointTests.{cell_passes, points_pass, all_cells, points_only}
use Rattle.pointtests.proofs.PointTests.{points_only_lem}
use Rattle.channels.specs.Fac.{fac_block}
use Rattle.channels.specs.Sdc.{sdc_constellation, sdc_block}
use Rattle.channels.specs.Msc.{msc_constellation, msc_block}
use Rattle.superframe.specs.Call.{memory_cell}
use Rattle.superframe.specs.Read.{row_cell, row_points}
use Rattle.cellmemory.proofs.Ring.{delay_even}

-- The test of a row at a count.
abbrev pub row_test : Constellation → ℕ → ℕ → PointTest
row_test c D count = record { constellation = c; depth = D; count = count; blank = false }

-- Not at most is above.
not-leb : (a b : ℕ) → not (leb a b) ≡ ltb b a
not-leb a b = go (below_or b a)
  where
    go : (b < a) ⊎ (a ≤ b) → not (leb a b) ≡ ltb b a
    go (inl h) = rw (lt-leb a b h, lt-ltb b a h)
    go (inr h) = rw (le-leb a b h, le-ltb b a h)

module _ (s : Scheme) where
  memory_cell_lem : (empties : Bool) (memory : List ℕ) (i : ℕ)
      → cell_passes (all_cells (msc_constellation s.settings.msc) empties) (numbers memory) i ≡ memory_cell empties s memory i
  unfolding cell_passes memory_cell is_empty msc_block points_of
  memory_cell_lem empties memory i = rw (mod-one i, real_at memory i, imaginary_at memory i)

  pub memory_points : (empties : Bool) (n : ℕ) (memory : List ℕ) → length memory ≡ n
      → points_pass (all_cells (msc_constellation s.settings.msc) empties) (numbers memory) ≡ every (table (memory_cell empties s memory) 0 n)
  unfolding points_pass
  memory_points empties n memory e =
      let h : length (numbers memory) / 2 ≡ n = omega (arith, length-numbers memory) in
      rw h (ap every (table_ext _ _ 0 n (λ i a b. memory_cell_lem empties memory i)))

  row_cell_lem : (count : ℕ) (row : List ℤ) (i : ℕ) → cell_passes (row_test (msc_constellation s.settings.msc) (depth s.settings) count) row i ≡ row_cell s count row i
  unfolding cell_passes row_cell msc_block points_of
  row_cell_lem count row i = rw (delay_even, not-leb)

  pub row_points_lem : (count : ℕ) (row : List ℤ) → length row ≡ 2 * n_mux s.settings
      → points_pass (row_test (msc_constellation s.settings.msc) (depth s.settings) count) row ≡ row_points s count row
  unfolding points_pass row_points
  row_points_lem count row e =
      let h : length row / 2 ≡ n_mux s.settings = omega arith in
      rw h (ap every (table_ext _ _ 0 (n_mux s.settings) (λ i a b. row_cell_lem count row i)))

  pub sdc_points : (cells : List ℤ) → length cells % 2 ≡ 0 → points_pass (points_only (sdc_constellation s.settings.sdc)) cells ≡ are_points (points_of (sdc_block s)) cells
  unfolding sdc_block points_of
  sdc_points cells e = points_only_lem (sdc_constellation s.settings.sdc) cells e

  pub fac_points : (cells : List ℤ) → length cells % 2 ≡ 0 → points_pass (points_only Qam4) cells ≡ are_points (points_of (fac_block s)) cells
  unfolding fac_block points_of
  fac_points cells e = points_only_lem Qam4 cells e
