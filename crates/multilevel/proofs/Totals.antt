-- The levels of a block one by one: their bits, their streams, and what coding them requires. Assumes nothing.
use Prim.Native.Nat.{ℕ, zero, suc, ◌+◌, ◌*◌, ◌^◌, ◌≤◌, ◌<◌}
use mathlib.Core.Path.{◌≡◌, refl, sym, ap, ap₂, ◌∙◌}
use mathlib.Core.Bool.{Bool, true, false, cond}
use mathlib.Core.List.{List, ◌∷◌}
use native.Mathlib.Nat.{add-zero, zero-add, pow-suc, mul-suc, suc-mul, mul-le-mul_right}
use native.Mathlib.Numerals.{add-one}
use native.Mathlib.Omega.{arith}
use lib.ListN.{length, get_or, drop, length-drop}
use lib.Seq.{drop-drop, length-take-le}
use lib.Count.{ones_step}
use Rattle.lists.specs.Lists.{table}
use Rattle.lists.proofs.Tables.{take-table}
use Rattle.patterns.specs.Patterns.{Sound}
use Rattle.component.specs.Bits.{Bits}
use Rattle.component.specs.Codeword.{following}
use Rattle.component.specs.Decoding.{coded_length}
use Rattle.component.proofs.Codeword.{following_low}
use Rattle.component.proofs.Bits.{bits-drop}
use Rattle.block.specs.declared.Level.{Level}
use Rattle.block.specs.declared.Block.{Block}
use Rattle.block.specs.Levels.{total_a, total_b, streams}
use Rattle.block.specs.Mapping.{label_at}
use Rattle.block.specs.Reading.{size_a, size_b}
use Rattle.block.specs.Block.{levels_of, one_axis, bit_count}
use Rattle.block.specs.Fits.{LevelFits, LevelsFit, none, more, BlockFits}
use Rattle.block.proofs.Lists.{bits-take}
use Rattle.block.proofs.Levels.{bits-stream, length-stream}
use Rattle.blockplaces.specs.Clauses.{BlockOrder, past_levels, level_at}
use Rattle.multilevel.specs.Clauses.{bits_in, bits_before, stream_at, stepped, Sums, LevelThere, LevelsThere, none, more, FewLevels, PartsOf}
use Rattle.blockplaces.proofs.Levels.{three, fits_level}
use Rattle.multilevel.proofs.Partition.{before_mono}

-- the bits of part A of levels from k on, and of part B
module _ (ls : List Level) where
  total_a-table : (k n : ℕ) → bits_before ls false k + total_a (table (level_at ls) k n) ≡ bits_before ls false (k + n)
  unfolding table total_a bits_before bits_in
  total_a-table k zero = rw (add-zero, add-zero)
  total_a-table k (suc n) = let e : k + suc n ≡ suc k + n = omega arith in rw e (omega (arith, total_a-table (suc k) n))

  total_b-table : (k n : ℕ) → bits_before ls true k + total_b (table (level_at ls) k n) ≡ bits_before ls true (k + n)
  unfolding table total_b bits_before bits_in
  total_b-table k zero = rw (add-zero, add-zero)
  total_b-table k (suc n) = let e : k + suc n ≡ suc k + n = omega arith in rw e (omega (arith, total_b-table (suc k) n))

  -- the bits that are left after level k
  left : (v : List ℕ) (b : Bool) (k : ℕ) → drop (bits_in b (level_at ls k)) (drop (bits_before ls b k) v) ≡ drop (bits_before ls b (suc k)) v
  unfolding bits_before
  left v b k = drop-drop (bits_in b (level_at ls k)) (bits_before ls b k) v

  -- the streams of all levels, level by level
  streams-table : (a b : List ℕ) (k n : ℕ)
      → streams (table (level_at ls) k n) (drop (bits_before ls false k) a) (drop (bits_before ls true k) b) ≡ stepped (stream_at ls a b) k 1 n
  unfolding table streams stepped stream_at bits_in
  streams-table a b k zero = refl
  streams-table a b k (suc n) =
      ap (λ v. stream_at ls a b k ∷ v) (rw (left a false k, left b true k, add-one k) (streams-table a b (suc k) n))

  -- every stream is bits, and so the labels of m streams are below 2 ^ m
  stream_bits : (a b : List ℕ) (l : ℕ) → Bits (stream_at ls a b l)
  unfolding stream_at
  stream_bits a b l = bits-stream (level_at ls l) _ _

  pub number_low : (a b : List ℕ) (l s m j : ℕ) → label_at (stepped (stream_at ls a b) l s m) j < 2 ^ m
  unfolding label_at stepped
  number_low a b l s zero j = omega arith
  number_low a b l s (suc m) j = rw pow-suc (omega (arith, number_low a b (l + s) s m j, (stream_bits a b l).bit j))

-- every input bit has a coded one at least
coded_least : {p : List ℕ} → Sound p → (i n : ℕ) → i < length p → n ≤ coded_length p i n
unfolding coded_length
coded_least S i zero h = omega arith
coded_least {p} S i (suc n) h = omega (arith, ones_step (get_or p i 0), S.first i h, coded_least S (following p i) n (following_low S i))

level_least : {n : ℕ} {l : Level} → LevelFits n l → l.bitsa + l.bitsb ≤ n
unfolding size_a size_b
level_least {l = l} F =
    omega (arith, F.size, coded_least F.held_a.sound 0 l.bitsa F.held_a.sound.some, coded_least F.held_b.sound 0 l.bitsb F.held_b.sound.some)

levels_least : {n : ℕ} {ls : List Level} → LevelsFit n ls → total_a ls + total_b ls ≤ length ls * n
unfolding total_a total_b
levels_least none = omega arith
levels_least {n} (more {ls = ls} F R) = omega (arith, level_least F, levels_least R, suc-mul (length ls) n)

-- at most three levels of two bits a cell, or six of one
six : (b : Bool) (s c : ℕ) → s ≤ 3 → cond b (2 * s) s * cond b c (2 * c) ≤ 6 * c
six true s c h = mul-le-mul_right c (omega arith)
six false s c h = let g : s * (2 * c) ≤ 3 * (2 * c) = mul-le-mul_right (2 * c) h in omega arith

-- the levels of a block
pub levels-table : (k : Block) → k.count ≤ length k.levels → levels_of k ≡ table (level_at k.levels) 0 k.count
unfolding levels_of level_at
levels-table k h = sym (take-table past_levels k.levels k.count h)

module _ {k : Block} (F : BlockFits k) where
  pub total_a_lem : total_a (levels_of k) ≡ bits_before k.levels false k.count
  unfolding bits_before
  total_a_lem = rw (levels-table k F.room) (sym (zero-add _) ∙ total_a-table k.levels 0 k.count ∙ rw zero-add)

  pub total_b_lem : total_b (levels_of k) ≡ bits_before k.levels true k.count
  unfolding bits_before
  total_b_lem = rw (levels-table k F.room) (sym (zero-add _) ∙ total_b-table k.levels 0 k.count ∙ rw zero-add)

  pub all-bits : bit_count k ≡ bits_before k.levels false k.count + bits_before k.levels true k.count
  unfolding bit_count
  all-bits = ap₂ ◌+◌ total_a_lem total_b_lem

  pub sums-front : Sums k.levels false k.count
  sums-front = record { there = F.few; fits = omega (arith, all-bits, F.short) }

  pub sums-rest : Sums k.levels true k.count
  sums-rest = record { there = F.few; fits = omega (arith, all-bits, F.short) }

  pub streams_are : (a b : List ℕ) → streams (levels_of k) a b ≡ stepped (stream_at k.levels a b) 0 1 k.count
  unfolding bits_before
  streams_are a b = rw (levels-table k F.room) (streams-table k.levels a b 0 k.count)

  -- a block has at most six bits a cell
  pub bits_low : bit_count k ≤ 6 * k.cells
  unfolding bit_count
  bits_low = omega (arith, rw F.levels at (levels_least F.fit), six (one_axis k) F.streams k.cells (three F))

  module _ {a b : List ℕ} (P : PartsOf k a b) {n : ℕ} (e : n ≡ cond (one_axis k) k.cells (2 * k.cells)) (high : n ≤ 12236) where
    -- its bits stand in those of parts A and B
    within_a_lem : (l : ℕ) → l < k.count → bits_before k.levels false (suc l) ≤ length a
    within_a_lem l h = omega (arith, P.long_a, before_mono k.levels false (suc l) k.count h)

    within_b_lem : (l : ℕ) → l < k.count → bits_before k.levels true (suc l) ≤ length b
    within_b_lem l h = omega (arith, P.long_b, before_mono k.levels true (suc l) k.count h)

    module _ {order : List ℕ} (O : BlockOrder k order) where
      there : (l : ℕ) → l < k.count → LevelThere (one_axis k) k.levels n order a b l
      there l h =
          record {
            room = (O.each l h n e).0;
            ordered = (O.each l h n e).1;
            there = omega (arith, F.few);
            fits = rw e (fits_level F l h);
            within_a = within_a_lem l h;
            within_b = within_b_lem l h;
            short = (omega (arith, P.long_a, all-bits, F.short), omega (arith, P.long_b, all-bits, F.short));
            high = high;
          }

      -- and so do those of every s-th level
      all_there : (s l m : ℕ) → 0 < s → l + s * m < k.count + s → LevelsThere (one_axis k) k.levels n order a b s l m
      all_there s l zero p h = none
      all_there s l (suc m) p h =
          let f : s * suc m ≡ s + s * m = mul-suc s m ∙ omega arith in
          more (there l (omega arith)) (all_there s (l + s) m p (omega arith))

      -- at most three of them
      pub few_levels : {labels : List ℕ} (s l m : ℕ) → 0 < s → s ≤ 2 → l ≤ 1 → m ≤ 3 → l + s * m < k.count + s → length labels ≡ n
          → FewLevels (one_axis k) k.levels l s m order a b labels
      few_levels s l m p s2 l1 m3 h g = record { levels = rw g (all_there s l m p h); three = m3; near = (omega arith, omega arith); high = omega arith }

    module _ (A : Bits a) (B : Bits b) where
      -- a level's stream has n bits
      pub length-stream_at : (l : ℕ) → l < k.count → length (stream_at k.levels a b l) ≡ n
      unfolding stream_at bits_before bits_in
      length-stream_at l h =
          let ls = k.levels in
          let T : LevelFits n (level_at ls l) = rw e (fits_level F l h) in
          length-stream T (bits-take (level_at ls l).bitsa (bits-drop (bits_before ls false l) A)) (bits-take (level_at ls l).bitsb (bits-drop (bits_before ls true l) B))
          (length-take-le (level_at ls l).bitsa (drop (bits_before ls false l) a) (rw length-drop (omega (arith, within_a_lem l h))))
          (length-take-le (level_at ls l).bitsb (drop (bits_before ls true l) b) (rw length-drop (omega (arith, within_b_lem l h))))
