-- The coordinates of the constellations' axes by their places: the decision by an axis's own list is the one by places. Assumes nothing.
use Prim.Native.Nat.{ℕ, ◌+◌, ◌-◌, ◌*◌, ◌/◌, ◌%◌, ◌^◌, ◌≤◌, ◌<◌}
use mathlib.Core.Path.{◌≡◌, refl, sym}
use mathlib.Core.Bool.{Bool, true, false, cond, ◌&&◌}
use mathlib.Core.List.{List}
use native.Mathlib.Omega.{arith}
use lib.Dec.{T, eqb, ltb, leb, leb→le, ltb→lt}
use lib.ListN.{length, get_or}
use lib.IntN.{ℤ, pos}
use lib.Ieee.{Float}
use Rattle.lists.proofs.Rules.{both_left, both_right, each, at}
use Rattle.lists.specs.Lists.{table}
use Rattle.lists.specs.Same.{same_number}
use Rattle.lists.proofs.Same.{same_number_true}
use Rattle.block.specs.declared.Constellation.{Constellation}
use Rattle.block.specs.declared.Constellation.TheVariants.{Qam4, Qam16, Sm64, HmSym, HmMix}
use Rattle.block.specs.Mapping.{coordinate, qam4, qam16, standard64, symmetric64, Labellings, constellation, axis}
use Rattle.block.specs.Reading.{place_of}
use Rattle.decision.specs.declared.Measured.{Measured}
use Rattle.decision.specs.declared.MeasuredCell.{MeasuredCell}
use Rattle.decision.specs.declared.MeasuredCell.TheVariants.{Pair}
use Rattle.decision.specs.Distance.{decision, Among}
use Rattle.decision.specs.Cells.{point_on, bit_on}
use Rattle.decision.specs.Clauses.{coordinate_at, first_place, Placed}
use Rattle.decision.proofs.Nearness.{decision_is}

pub first_low : (c : Constellation) → first_place c ≤ 3
unfolding first_place
first_low Qam4 = omega arith
first_low Qam16 = omega arith
first_low Sm64 = omega arith
first_low HmSym = omega arith
first_low HmMix = omega arith

-- a coordinate at a place from the first to 7 less it
pub record Inside (first : ℕ) (v : ℤ) : Type 0 where
  pub index : ℕ
  pub low : first ≤ index
  pub high : index ≤ 7 - first
  pub is : v ≡ coordinate_at index

-- a list has the coordinates of these places and no others
pub record Spans (first : ℕ) (l : List ℤ) : Type 0 where
  pub inside : (n : ℕ) → n < length l → Inside first (get_or l n (pos 0))
  pub has : (i : ℕ) → first ≤ i → i ≤ 7 - first → Among l (coordinate_at i)

-- THE TESTS of a list: each element is the coordinate of its place, and each place's coordinate is found
element_test : ℕ → List ℤ → ℕ → Bool
element_test first l n =
    let v = get_or l n (pos 0) in
    let i = place_of standard64 v in
    same_number v (coordinate_at i) && (leb first i && leb i (7 - first))

place_test : ℕ → List ℤ → ℕ → Bool
place_test first l k =
    let v = coordinate_at (first + k) in
    ltb (place_of l v) (length l) && same_number (get_or l (place_of l v) (pos 0)) v

-- a test that passes holds
pub holds : (b : Bool) → T b → b ≡ true
holds true t = refl
holds false t = absurd t

spans : (first : ℕ) (l : List ℤ) → first ≤ 3 → T (each (element_test first l) (length l)) → T (each (place_test first l) (8 - 2 * first)) → Spans first l
unfolding element_test place_test
spans first l low s t = record { inside = inside; has = has }
  where
    inside : (n : ℕ) → n < length l → Inside first (get_or l n (pos 0))
    inside n h =
        let v = get_or l n (pos 0) in
        let i = place_of standard64 v in
        let q = at (element_test first l) (length l) s n h in
        let r = both_right (same_number v (coordinate_at i)) (leb first i && leb i (7 - first)) q in
        record {
          index = i;
          low = leb→le first i (both_left (leb first i) (leb i (7 - first)) r);
          high = leb→le i (7 - first) (both_right (leb first i) (leb i (7 - first)) r);
          is = same_number_true v (coordinate_at i) (holds _ (both_left (same_number v (coordinate_at i)) (leb first i && leb i (7 - first)) q));
        }

    found : (k : ℕ) → k < 8 - 2 * first → Among l (coordinate_at (first + k))
    found k h =
        let v = coordinate_at (first + k) in
        let i = place_of l v in
        let q = at (place_test first l) (8 - 2 * first) t k h in
        record {
          index = i;
          low = ltb→lt i (length l) (both_left (ltb i (length l)) (same_number (get_or l i (pos 0)) v) q);
          value = same_number_true (get_or l i (pos 0)) v (holds _ (both_right (ltb i (length l)) (same_number (get_or l i (pos 0)) v) q));
        }

    has : (i : ℕ) → first ≤ i → i ≤ 7 - first → Among l (coordinate_at i)
    has i l h = let e : first + (i - first) ≡ i = omega arith in rw e at (found (i - first) (omega arith))

spans4 : Spans 3 qam4
unfolding element_test place_test coordinate_at qam4 standard64 table coordinate place_of same_number
spans4 = spans 3 qam4 (omega arith) tt tt

spans16 : Spans 2 qam16
unfolding element_test place_test coordinate_at qam16 standard64 table coordinate place_of same_number
spans16 = spans 2 qam16 (omega arith) tt tt

spans64 : Spans 0 standard64
unfolding element_test place_test coordinate_at standard64 table coordinate place_of same_number
spans64 = spans 0 standard64 (omega arith) tt tt

spans64s : Spans 0 symmetric64
unfolding element_test place_test coordinate_at symmetric64 standard64 table coordinate place_of same_number
spans64s = spans 0 symmetric64 (omega arith) tt tt

-- what holds of both axes holds of the axis of any number
pub on_both : (P : List ℤ → Type 0) (k : Labellings) → P k.real → P k.imaginary → (m : ℕ) → P (axis k m)
unfolding axis
on_both P k p q m = go (eqb (m % 2) 0)
  where
    go : (b : Bool) → P (cond b k.real k.imaginary)
    go true = p
    go false = q

-- and what holds of the four labellings holds of the axes of the five constellations
pub on_axes : (P : ℕ → List ℤ → Type 0) → P 3 qam4 → P 2 qam16 → P 0 standard64 → P 0 symmetric64 → (c : Constellation) → (m : ℕ) → P (first_place c) (axis (constellation c) m)
unfolding first_place constellation
on_axes P a b d e Qam4 = on_both (P 3) (constellation Qam4) a a
on_axes P a b d e Qam16 = on_both (P 2) (constellation Qam16) b b
on_axes P a b d e Sm64 = on_both (P 0) (constellation Sm64) d d
on_axes P a b d e HmSym = on_both (P 0) (constellation HmSym) e e
on_axes P a b d e HmMix = on_both (P 0) (constellation HmMix) e d

axis_spans : (c : Constellation) (m : ℕ) → Spans (first_place c) (axis (constellation c) m)
axis_spans c = on_axes (λ first l. Spans first l) spans4 spans16 spans64 spans64s c

-- the place that the comparisons find is the decision's
span_decided : {x : Float} {i : ℕ} (first : ℕ) (l : List ℤ) → Spans first l → Placed x first (7 - first) i → decision x l ≡ coordinate_at i
span_decided {x} {i} first l S P =
    decision_is x l (coordinate_at i) (S.has i P.low P.high)
    (λ n h. let q = S.inside n h in rw q.is (P.nearest q.index q.low q.high))

pub place_decided : {x : Float} {i : ℕ} (c : Constellation) → Placed x (first_place c) (7 - first_place c) i → (m : ℕ) → coordinate_at i ≡ decision x (axis (constellation c) m)
place_decided c P m = sym (span_decided (first_place c) (axis (constellation c) m) (axis_spans c m) P)

-- the axis of a number is that of its remainder
pub axis_side : (k : Labellings) (m : ℕ) → axis k (m % 2) ≡ axis k m
unfolding axis
axis_side k m = let e : m % 2 % 2 ≡ m % 2 = omega arith in rw e

-- a digit of the coordinate's number in the axis's labelling is the level bit
pub bit_digit : (k : Labellings) (cell : MeasuredCell) (p : Measured) (m l n : ℕ) (v : ℤ) → cell ≡ Pair p → v ≡ point_on k cell m → n ≡ place_of (axis k (m % 2)) v
    → n / 2 ^ l % 2 ≡ bit_on k cell m l
unfolding point_on bit_on
bit_digit k cell p m l n v e f g = rw (g, axis_side k m, f, e)
