-- Levels read one after the other into parts A and B. Assumes nothing.
use Prim.Native.Nat.{ℕ, suc, ◌+◌, ◌-◌, ◌*◌, ◌/◌, ◌≤◌, ◌<◌}
use mathlib.Core.Path.{◌≡◌, refl, ◌∙◌}
use mathlib.Core.Bool.{Bool, true, false}
use mathlib.Core.List.{List, [], ◌∷◌}
use native.Mathlib.Omega.{arith}
use lib.ListN.{length, set, take, drop, length-take, length-drop}
use lib.Seq.{sets, length-take-le, take-set-lt, take-set-le, drop-set-add, drop-set-lt}
use Rattle.block.specs.Block.{one_axis}
use Rattle.block.specs.Reading.{taken, input_a, input_b}
use Rattle.block.specs.declared.Block.{Block}
use Rattle.block.specs.declared.Level.{Level}
use Rattle.blockplaces.specs.Clauses.{level_at, shared, digits, digit_at}
use Rattle.level.specs.Clauses.{level_bits_over, taken_over, ReadsLevel}
use Rattle.level.proofs.Parts.{part_is}
use Rattle.level.proofs.OneRead.{length-input_a, length-input_b}
use Rattle.multilevel.specs.Clauses.{bits_in, bits_before, front_bits, part_a, part_b, LevelThere, FewLevels, ReadsAt, ReadAt, ReadsLevels, LevelsRead, input_in, read_over, taken_overs}
use Rattle.multilevel.proofs.Partition.{ends-a, ends-b}
use Rattle.multilevel.proofs.Totals.{all-bits}
use Rattle.multilevel.proofs.Turns.{Turn, first_turn, level_there, next_turn}

pub length-input_in : (b : Bool) (l : Level) (y : List ℕ) → length (input_in b l y) ≡ bits_in b l
unfolding input_in bits_in
length-input_in true l y = length-input_b l y
length-input_in false l y = length-input_a l y

-- what is stored before place n, and what from there on
take-stored : (x v : List ℕ) (i n : ℕ) → i + length x ≤ n → take n (sets v i x) ≡ sets (take n v) i x
take-stored [] v i n h = refl
take-stored (a ∷ x) v i n h = take-stored x (set v i a) (suc i) n (omega arith) ∙ rw (take-set-lt n v i a (omega arith))

take_behind : (x v : List ℕ) (i n : ℕ) → n ≤ i → take n (sets v i x) ≡ take n v
take_behind [] v i n h = refl
take_behind (a ∷ x) v i n h = take_behind x (set v i a) (suc i) n (omega arith) ∙ take-set-le n v i a h

drop-stored : (x v : List ℕ) (i n : ℕ) → drop n (sets v (n + i) x) ≡ sets (drop n v) i x
drop-stored [] v i n = refl
drop-stored (a ∷ x) v i n =
    let e : suc (n + i) ≡ n + suc i = omega arith in
    let f : drop n (sets (set v (n + i) a) (suc (n + i)) x) ≡ sets (set (drop n v) i a) (suc i) x =
    rw (e, drop-stored x (set v (n + i) a) (suc i) n, drop-set-add n v i a) in
    f

pub drop-before : (x v : List ℕ) (i n : ℕ) → i + length x ≤ n → drop n (sets v i x) ≡ drop n v
drop-before [] v i n h = refl
drop-before (a ∷ x) v i n h = drop-before x (set v i a) (suc i) n (omega arith) ∙ drop-set-lt n v i a (omega arith)

module _ {k : Block} {l w : ℕ} {order labels coded bits : List ℕ} (R : ReadsAt k l w order labels coded bits)
    {at front r : ℕ} (ea : at ≡ bits_before k.levels false l) (ef : front ≡ front_bits k) (er : r ≡ bits_before k.levels true l) where
  -- part A's bits stand first in the block's
  pub whole : (length (part_a k bits) ≡ front_bits k) × (length (part_b k bits) ≡ length bits - front_bits k) × (front_bits k ≤ length bits) × (length bits ≤ 36708)
  unfolding part_a part_b
  whole =
      let f : front_bits k ≤ length bits = omega (arith, R.long, all-bits R.fits) in
      (length-take-le (front_bits k) bits f, length-drop (front_bits k) bits, f, omega (arith, R.long, R.fits.short))

  pub ends : (at + (level_at k.levels l).bitsa ≤ front_bits k) × (front + r + (level_at k.levels l).bitsb ≤ length bits)
  ends = let W = whole in (omega (arith, ends-a R.level ea, W.0), omega (arith, ends-b R.level er, ef, W.1, W.2))

  -- what reading the level requires
  pub reads_level : {d : ℕ} → d ≡ digit_at (one_axis k) l
      → ReadsLevel (level_at k.levels l) w (take (d * length labels + length labels - d * length labels) (drop (d * length labels) order)) labels coded bits at (front + r)
  reads_level {d} ed =
      record {
        ordered = rw (part_is order (d * length labels) (length labels) (d * length labels) refl, ed) R.level.ordered;
        fits = R.level.fits;
        end_a = omega (arith, ends.0, whole.2);
        end_b = ends.1;
        high = R.level.high;
        buffer = R.buffer;
        short = omega (arith, whole.3);
        weighs = R.weighs;
      }

  -- and then its bits stand at their places
  pub read_at_lem : {bits' : List ℕ} → bits' ≡ level_bits_over (level_at k.levels l) (taken w labels) at (front + r) bits
      → ReadAt k.levels l (taken w labels) (part_a k bits) (part_b k bits) (part_a k bits') (part_b k bits')
  unfolding input_in part_a part_b
  read_at_lem {bits'} e =
      let L = level_at k.levels l in
      let y = taken w labels in
      let n = front_bits k in
      let h : at + length (input_a L y) ≤ n = rw (length-input_a L y) ends.0 in
      record {
        part_a = rw (e, ef, take_behind (input_b L y) (sets bits at (input_a L y)) (n + r) n (omega arith), ← ea) (take-stored (input_a L y) bits at n h);
        part_b = rw (e, ef, drop-stored (input_b L y) (sets bits at (input_a L y)) r n, drop-before (input_a L y) bits at n h, er);
      }

-- a level has places in parts that are as long
same_there : {one : Bool} {ls : List Level} {n l : ℕ} {order a b a' b' : List ℕ} → LevelThere one ls n order a b l → length a' ≡ length a → length b' ≡ length b
    → LevelThere one ls n order a' b' l
same_there L e f =
    record {
      room = L.room;
      ordered = L.ordered;
      there = L.there;
      fits = L.fits;
      within_a = omega (arith, L.within_a, e);
      within_b = omega (arith, L.within_b, f);
      short = (omega (arith, L.short.0, e), omega (arith, L.short.1, f));
      high = L.high;
    }

-- before the turn at level l, with m levels left: reading these leads to what reading all leads to
pub record Reading (k : Block) (order labels coded₀ bits₀ : List ℕ) (first s count : ℕ) (coded bits : List ℕ) (l w m : ℕ) : Type 0 where
  pub few : FewLevels (one_axis k) k.levels first s count order (part_a k bits₀) (part_b k bits₀) labels
  pub turn : Turn (one_axis k) k.levels (length labels) order (part_a k bits₀) (part_b k bits₀) first s count l w m
  pub same : length bits ≡ length bits₀
  pub same_coded : length coded ≡ length coded₀
  pub front : read_over k.levels false labels l s w m (part_a k bits) ≡ read_over k.levels false labels first s 1 count (part_a k bits₀)
  pub rest : read_over k.levels true labels l s w m (part_b k bits) ≡ read_over k.levels true labels first s 1 count (part_b k bits₀)
  pub buffer : taken_overs k.levels labels l s w m coded ≡ taken_overs k.levels labels first s 1 count coded₀

module _ {k : Block} {first : ℕ} {order labels coded₀ bits₀ : List ℕ} (F : ReadsLevels k first order labels coded₀ bits₀) where
  pub start : {s m : ℕ} → s ≡ shared k → m ≡ k.count / s → Reading k order labels coded₀ bits₀ first s m coded₀ bits₀ first 1 m
  start {s} {m} e f =
      let few : FewLevels (one_axis k) k.levels first s m order (part_a k bits₀) (part_b k bits₀) labels = rw (f, e) F.few in record { few = few; turn = first_turn few; same = refl; same_coded = refl; front = refl; rest = refl; buffer = refl }

  module _ {s count : ℕ} {coded bits : List ℕ} {l w m : ℕ} (R : Reading k order labels coded₀ bits₀ first s count coded bits l w m) where
    -- what reading the level requires
    pub reads_at : 0 < m → ReadsAt k l w order labels coded bits
    unfolding part_a part_b
    reads_at h =
        record {
          fits = F.fits;
          long = R.same ∙ F.long;
          level = same_there (level_there R.turn h) (rw (length-take, length-take, R.same)) (rw (length-drop, length-drop, R.same));
          buffer = rw R.same_coded F.buffer;
          weighs = R.turn.weighs;
        }

    -- and the turn
    pub turned : 0 < m → {coded' bits' : List ℕ} → length bits' ≡ length bits → length coded' ≡ length coded
        → ReadAt k.levels l (taken w labels) (part_a k bits) (part_b k bits) (part_a k bits') (part_b k bits')
        → coded' ≡ taken_over (level_at k.levels l) (taken w labels) coded
        → Reading k order labels coded₀ bits₀ first s count coded' bits' (l + s) (2 * w) (m - 1)
    unfolding read_over taken_overs
    turned h p q E e =
        let f : m ≡ suc (m - 1) = omega arith in
        record {
          few = R.few;
          turn = next_turn R.turn h;
          same = p ∙ R.same;
          same_coded = q ∙ R.same_coded;
          front = rw E.part_a (rw f at R.front);
          rest = rw E.part_b (rw f at R.rest);
          buffer = rw e (rw f at R.buffer);
        }

    pub done : s ≡ shared k → count ≡ k.count / s → m ≤ 0
        → LevelsRead k first labels bits₀ bits × (coded ≡ taken_overs k.levels labels first (shared k) 1 (digits k) coded₀)
    unfolding read_over taken_overs
    done e g h =
        let f : m ≡ 0 = omega arith in
        (record { front = rw (f, g, e) at R.front; rest = rw (f, g, e) at R.rest }, rw (f, g, e) at R.buffer)
