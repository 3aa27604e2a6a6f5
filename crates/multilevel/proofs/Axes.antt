-- At most three levels at a time: those of both axes, or those of one. Assumes nothing.
use Prim.Native.Nat.{ℕ, ◌*◌, ◌/◌, ◌≤◌, ◌<◌}
use mathlib.Core.Path.{◌≡◌, sym, ap, ◌∙◌}
use mathlib.Core.Bool.{true, false, cond, true≢false}
use mathlib.Core.Logic.{◌⊎◌, inl, inr}
use mathlib.Core.List.{List}
use native.Mathlib.Omega.{arith}
use lib.ListN.{length}
use Rattle.lists.proofs.Counting.{below_or}
use Rattle.block.specs.declared.Block.{Block}
use Rattle.block.specs.Mapping.{numbered, is_mixed}
use Rattle.block.specs.Block.{one_axis}
use Rattle.block.specs.Fits.{BlockFits}
use Rattle.blockplaces.specs.Clauses.{BlockOrder}
use Rattle.multilevel.specs.Clauses.{PartsOf, FewLevels}
use Rattle.blockplaces.proofs.Levels.{count_is, three}
use Rattle.multilevel.proofs.Totals.{few_levels}

-- number 4 is the constellation that has two labellings
mixed_four : (n : ℕ) → n ≡ 4 → is_mixed (numbered n) ≡ false → ⊥
unfolding numbered
mixed_four n e f = true≢false (rw e at f)

module _ {k : Block} (F : BlockFits k) (one : one_axis k ≡ false) where
  pub few : k.count ≤ 3
  few = omega (arith, sym (count_is F) ∙ rw one at F.levels, three F)

  -- both axes have one labelling
  pub alike : is_mixed k.constellation ≡ false
  unfolding one_axis
  alike = one

  -- the constellation's number is below 4, the number of the one that has two labellings
  pub alike_low : (n : ℕ) → n < 5 → numbered n ≡ k.constellation → n < 4
  alike_low n h e = go (below_or n 4)
    where
      go : (n < 4) ⊎ (4 ≤ n) → n < 4
      go (inl l) = l
      go (inr l) =
          let four : n ≡ 4 = omega arith in
          absurd (mixed_four n four (ap is_mixed e ∙ alike))

  -- all of them
  pub both_levels : {order a b labels : List ℕ} → PartsOf k a b → BlockOrder k order → length labels ≡ 2 * k.cells
      → FewLevels (one_axis k) k.levels 0 1 k.count order a b labels
  both_levels P O e =
      few_levels F P {n = 2 * k.cells} (rw one) (omega (arith, F.most)) O 1 0 k.count (omega arith) (omega arith) (omega arith) few (omega arith) e

module _ {k : Block} (F : BlockFits k) (one : one_axis k ≡ true) where
  pub axis : k.cells ≡ cond (one_axis k) k.cells (2 * k.cells)
  axis = rw one

  pub cells_low : k.cells ≤ 12236
  cells_low = omega (arith, F.most)

  count : k.count ≡ 2 * F.streams
  count = sym (count_is F) ∙ rw one at F.levels

  pub pairs : k.count / 2 ≤ 3
  pairs = omega (arith, count, three F)

  pub twice : 2 * (k.count / 2) ≡ k.count
  twice = omega (arith, count)

  -- those of the real axis, or those of the imaginary one
  pub axis-levels : {order a b labels : List ℕ} → PartsOf k a b → BlockOrder k order → (l : ℕ) → l ≤ 1 → length labels ≡ k.cells
      → FewLevels (one_axis k) k.levels l 2 (k.count / 2) order a b labels
  axis-levels P O l h e = few_levels F P axis cells_low O 2 l (k.count / 2) (omega arith) (omega arith) h pairs (omega (arith, twice)) e
