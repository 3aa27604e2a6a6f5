-- The levels of a block: how many, and what each is. Assumes nothing.
use Prim.Native.Nat.{ℕ, zero, suc, ◌+◌, ◌*◌, ◌≤◌, ◌<◌}
use mathlib.Core.Path.{◌≡◌}
use mathlib.Core.Bool.{true, cond}
use mathlib.Core.Logic.{◌⊎◌, inl, inr}
use mathlib.Core.List.{List}
use native.Mathlib.Omega.{arith}
use lib.ListN.{length, get_or}
use lib.Seq.{length-take-le, get_or-take}
use lib.Pow.{pow_mono}
use Rattle.lists.proofs.Counting.{below_or}
use Rattle.block.specs.declared.Level.{Level}
use Rattle.block.specs.declared.Block.{Block}
use Rattle.block.specs.declared.Constellation.{Constellation}
use Rattle.block.specs.declared.Constellation.TheVariants.{Qam4, Qam16, Sm64, HmSym, HmMix}
use Rattle.block.specs.Mapping.{constellation}
use Rattle.block.specs.Block.{levels_of, points_of, one_axis}
use Rattle.block.specs.Fits.{Labels, LevelFits, LevelsFit, none, more, Alike, BlockFits}
use Rattle.block.proofs.Mapping.{level_count, constellation_labels}
use Rattle.blockplaces.specs.Clauses.{past_levels, level_at}

-- a level of levels that fit
fits_at : {n : ℕ} {ls : List Level} → LevelsFit n ls → (z : Level) (l : ℕ) → l < length ls → LevelFits n (get_or ls l z)
fits_at none z l h = absurd (omega arith)
fits_at (more F R) z zero h = F
fits_at (more F R) z (suc l) h = fits_at R z l (omega arith)

-- a constellation has at most three level bits
levels_low : (c : Constellation) → level_count c ≤ 3
unfolding level_count
levels_low Qam4 = omega arith
levels_low Qam16 = omega arith
levels_low Sm64 = omega arith
levels_low HmSym = omega arith
levels_low HmMix = omega arith

labels_low : (c : Constellation) (m : ℕ) → Labels m (constellation c) → m ≤ 3
labels_low c m L = go (below_or m 4)
  where
    go : (m < 4) ⊎ (4 ≤ m) → m ≤ 3
    go (inl h) = omega arith
    go (inr h) =
        absurd (omega (arith, L.real.size, (constellation_labels c).real.size, pow_mono {i = 4} {j = m} h, pow_mono {i = level_count c} {j = 3} (levels_low c)))

module _ {k : Block} (F : BlockFits k) where
  pub count_is : length (levels_of k) ≡ k.count
  unfolding levels_of
  count_is = length-take-le k.count k.levels F.room

  pub three : F.streams ≤ 3
  unfolding points_of
  three = labels_low k.constellation F.streams F.labels

  -- level l fits
  pub fits_level : (l : ℕ) → l < k.count → LevelFits (cond (one_axis k) k.cells (2 * k.cells)) (level_at k.levels l)
  unfolding levels_of level_at
  fits_level l h = rw (get_or-take k.count k.levels l past_levels h) at (fits_at F.fit past_levels l (rw count_is h))

  -- those of a pair are interleaved alike
  pub pair_at_lem : one_axis k ≡ true → (i : ℕ) → 2 * i + 1 < k.count → Alike (level_at k.levels (2 * i)) (level_at k.levels (2 * i + 1))
  unfolding levels_of level_at
  pair_at_lem o i h =
      rw (get_or-take k.count k.levels (2 * i) past_levels (omega arith), get_or-take k.count k.levels (2 * i + 1) past_levels h) at
      ((F.pairs o).alike past_levels i (rw count_is h))
