-- The bits of levels before a level, and a level's bits among those of parts A and B. Assumes nothing.
use Prim.Native.Nat.{ℕ, zero, suc, ◌+◌, ◌-◌, ◌*◌, ◌≤◌, ◌<◌}
use mathlib.Core.Path.{◌≡◌, refl}
use mathlib.Core.Logic.{◌⊎◌, inl, inr}
use mathlib.Core.Bool.{Bool, true, false}
use mathlib.Core.List.{List}
use native.Mathlib.Nat.{mul-le-mul, eq-or-lt_of_le}
use native.Mathlib.Numerals.{add-one}
use native.Mathlib.Omega.{arith}
use lib.ListN.{length, take, drop}
use Rattle.blockplaces.specs.Clauses.{level_at, digit_at}
use Rattle.level.specs.Clauses.{coded_over, CodesLevel}
use Rattle.level.proofs.Parts.{part_is, part_long, part-bits}
use Rattle.multilevel.specs.Clauses.{coded_over_at, bits_in, bits_before, stream_at, Sums, LevelThere, CodesAt}
use Rattle.labels.specs.Clauses.{added}
use Rattle.block.specs.declared.Level.{Level}
use Rattle.block.specs.Levels.{stream}

-- the sums grow
pub before_mono : (ls : List Level) (b : Bool) (i l : ℕ) → i ≤ l → bits_before ls b i ≤ bits_before ls b l
unfolding bits_before
before_mono ls b i zero h = let e : i ≡ 0 = omega arith in rw e (omega arith)
before_mono ls b i (suc l) h = go (eq-or-lt_of_le h) (before_mono ls b i l)
  where
    go : (i ≡ suc l) ⊎ (i < suc l) → (i ≤ l → bits_before ls b i ≤ bits_before ls b l) → bits_before ls b i ≤ bits_before ls b l + bits_in b (level_at ls l)
    go (inl e) ih = rw e (omega arith)
    go (inr k) ih = omega (arith, ih (omega arith))

-- one more level
pub before-next : (ls : List Level) (b : Bool) (i s : ℕ) → s ≡ bits_before ls b i → s + bits_in b (level_at ls i) ≡ bits_before ls b (i + 1)
unfolding bits_before
before-next ls b i s e = rw (add-one, e)

-- it can be counted too
pub before-fits : {ls : List Level} {b : Bool} {l : ℕ} → Sums ls b l → (i : ℕ) → i < l → bits_before ls b i + bits_in b (level_at ls i) ≤ 65536
before-fits {ls} {b} {l} S i h = omega (arith, before-next ls b i _ refl, before_mono ls b (i + 1) l (omega arith), S.fits)

-- a level's digit is at most its number
digit_le : (one : Bool) (l : ℕ) → digit_at one l ≤ l
unfolding digit_at
digit_le true l = omega arith
digit_le false l = omega arith

module _ {one : Bool} {ls : List Level} {n : ℕ} {order a b : List ℕ} {l : ℕ} (L : LevelThere one ls n order a b l) where
  -- its order's place can be worked out
  pub place-fits : {d : ℕ} → d ≡ digit_at one l → d * n ≤ 5 * 12236
  place-fits e = mul-le-mul {n₂ = 5} {m₂ = 12236} (omega (arith, L.there, e, digit_le one l)) L.high

  pub place_room : {d : ℕ} → d ≡ digit_at one l → d * n + n ≤ length order
  place_room e = rw e L.room

  -- the bits of the levels before it can be counted
  pub sums-a : Sums ls false l
  sums-a = record { there = omega (arith, L.there); fits = omega (arith, before_mono ls false l (suc l) (omega arith), L.within_a, L.short.0) }

  pub sums-b : Sums ls true l
  sums-b = record { there = omega (arith, L.there); fits = omega (arith, before_mono ls true l (suc l) (omega arith), L.within_b, L.short.1) }

  -- its own end within those of part A, and of part B
  pub ends-a : {s : ℕ} → s ≡ bits_before ls false l → s + (level_at ls l).bitsa ≤ length a
  unfolding bits_before bits_in
  ends-a es = rw es L.within_a

  pub ends-b : {r : ℕ} → r ≡ bits_before ls true l → r + (level_at ls l).bitsb ≤ length b
  unfolding bits_before bits_in
  ends-b er = rw er L.within_b

module _ {one : Bool} {ls : List Level} {l w : ℕ} {order a b coded labels : List ℕ} (C : CodesAt one ls l w order a b coded labels)
    {s r : ℕ} (es : s ≡ bits_before ls false l) (er : r ≡ bits_before ls true l) where
  -- what coding the level requires
  pub codes_level : {d : ℕ} → d ≡ digit_at one l → CodesLevel (level_at ls l) w (take (d * length labels + length labels - d * length labels) (drop (d * length labels) order)) (take (s + (level_at ls l).bitsa - s) (drop s a)) (take (r + (level_at ls l).bitsb - r) (drop r b)) coded labels
  codes_level {d} ed =
      record {
        ordered = rw (part_is order (d * length labels) (length labels) (d * length labels) refl, ed) C.level.ordered;
        fits = C.level.fits;
        long_a = part_long a s (level_at ls l).bitsa s refl (ends-a C.level es);
        long_b = part_long b r (level_at ls l).bitsb r refl (ends-b C.level er);
        input_a = part-bits a s (level_at ls l).bitsa s refl C.input_a;
        input_b = part-bits b r (level_at ls l).bitsb r refl C.input_b;
        buffer = C.buffer;
        high = omega (arith, C.level.high);
        sums = C.sums;
      }

  -- so that the labels have its stream added
  pub coded_is : {after : List ℕ}
      → after ≡ added w (stream (level_at ls l) (take (s + (level_at ls l).bitsa - s) (drop s a)) (take (r + (level_at ls l).bitsb - r) (drop r b))) labels
      → after ≡ added w (stream_at ls a b l) labels
  unfolding stream_at
  coded_is e =
      rw (part_is a s (level_at ls l).bitsa (bits_before ls false l) es, part_is b r (level_at ls l).bitsb (bits_before ls true l) er) at e

  -- and the working buffer its coded bits
  pub over_at : {after : List ℕ}
      → after ≡ coded_over (level_at ls l) (take (s + (level_at ls l).bitsa - s) (drop s a)) (take (r + (level_at ls l).bitsb - r) (drop r b)) coded
      → after ≡ coded_over_at ls a b l coded
  unfolding coded_over_at
  over_at e =
      rw (part_is a s (level_at ls l).bitsa (bits_before ls false l) es, part_is b r (level_at ls l).bitsb (bits_before ls true l) er) at e
