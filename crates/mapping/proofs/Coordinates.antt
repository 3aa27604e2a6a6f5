-- Coordinates as the code holds them. Assumes nothing.
use Prim.Native.Nat.{ℕ, zero, suc, ◌+◌, ◌*◌, ◌%◌, ◌≤◌, ◌<◌}
use mathlib.Core.Bool.{Bool, true, false, cond}
use mathlib.Core.Path.{◌≡◌, refl, sym, ◌∙◌}
use mathlib.Core.List.{List}
use native.Mathlib.Nat.{add-zero}
use native.Mathlib.Omega.{arith}
use borrow.Author.Tests.{eq-eqb, ne_eqb}
use lib.ListN.{length, get_or, set}
use lib.Dec.{eqb}
use lib.IntN.{ℤ, pos}
use Rattle.lists.proofs.Tables.{Filled, filled-start, filled_turn, filled_end}
use Rattle.block.specs.declared.Constellation.{Constellation}
use Rattle.block.specs.declared.Constellation.TheVariants.{Qam4, Qam16, Sm64, HmSym, HmMix}
use Rattle.block.specs.Mapping.{Labellings, qam4, qam16, standard64, symmetric64, constellation, is_mixed, axis, weave}
use Rattle.mapping.specs.declared.points.Axis.{Axis}
use Rattle.mapping.specs.declared.points.Axis.TheVariants.{Real, Imaginary}
use Rattle.mapping.specs.Axes.{axis_number}
use Rattle.mapping.specs.Labellings.{of_axis}
use Rattle.mapping.specs.Labels.{coordinates}
use Rattle.block.proofs.Mapping.{get_or-weave}

-- the labelling of an even number is the real axis's, of an odd one the imaginary axis's
pub axis_even : (k : Labellings) (j : ℕ) → j % 2 ≡ 0 → axis k j ≡ k.real
unfolding axis
axis_even k j e = rw (eq-eqb (j % 2) 0 e)

pub axis_odd : (k : Labellings) (j : ℕ) → j % 2 ≡ 1 → axis k j ≡ k.imaginary
unfolding axis
axis_odd k j e = rw (ne_eqb (j % 2) 0 (omega arith))

-- a rule of both axes
pub both_axes : (P : ℕ → Type 0) → P 0 → P 1 → (a : ℕ) → a < 2 → P a
both_axes P p q zero h = p
both_axes P p q (suc zero) h = q
both_axes P p q (suc (suc a)) h = absurd (omega arith)

-- the labelling of a coordinate by its axis
pub axis_of : (K : Labellings) (k a : ℕ) → a < 2 → axis K (2 * k + a) ≡ axis K a
axis_of K k = both_axes (λ a. axis K (2 * k + a) ≡ axis K a)
    (axis_even K (2 * k + 0) (omega arith) ∙ sym (axis_even K 0 refl))
    (axis_odd K (2 * k + 1) (omega arith) ∙ sym (axis_odd K 1 refl))

-- where both axes of a constellation have one labelling
pub one_labelling : (K : Labellings) (l : List ℤ) → K.real ≡ l → K.imaginary ≡ l → (a : ℕ) → axis K a ≡ l
unfolding axis
one_labelling K l e f a = go (eqb (a % 2) 0)
  where
    go : (b : Bool) → cond b K.real K.imaginary ≡ l
    go true = e
    go false = f

-- as in all but HMmix
pub alike : (c : Constellation) → is_mixed c ≡ false → (j : ℕ) → axis (constellation c) j ≡ axis (constellation c) 0
unfolding axis constellation
alike Qam4 h = one_labelling (constellation Qam4) _ refl refl
alike Qam16 h = one_labelling (constellation Qam16) _ refl refl
alike Sm64 h = one_labelling (constellation Sm64) _ refl refl
alike HmSym h = one_labelling (constellation HmSym) _ refl refl
alike HmMix h = absurd (cc)

-- an axis has number 0 or 1
pub number_low : (a : Axis) → axis_number a < 2
unfolding axis_number
number_low Real = omega arith
number_low Imaginary = omega arith

-- what holds of each rule's thing and its labelling, holds of an axis's
pub axis_holds : {A : Type 0} (P : A → List ℤ → Type 0) (c : Constellation) (a : ℕ) → a < 2 → (x y z w : A)
    → P x qam4 → P y qam16 → P z standard64 → P w symmetric64 → P (of_axis c a x y z w) (axis (constellation c) a)
unfolding of_axis axis constellation
axis_holds P Qam4 a h x y z w p q r s = rw (one_labelling (constellation Qam4) _ refl refl a) p
axis_holds P Qam16 a h x y z w p q r s = rw (one_labelling (constellation Qam16) _ refl refl a) q
axis_holds P Sm64 a h x y z w p q r s = rw (one_labelling (constellation Sm64) _ refl refl a) r
axis_holds P HmSym a h x y z w p q r s = rw (one_labelling (constellation HmSym) _ refl refl a) s
axis_holds P HmMix zero h x y z w p q r s = s
axis_holds P HmMix (suc zero) h x y z w p q r s = r
axis_holds P HmMix (suc (suc a)) h x y z w p q r s = absurd (omega arith)

-- before the turn at cell k of the coordinates of labels
pub record Placing (c : Constellation) (labels : List ℕ) (d out : List ℤ) (k : ℕ) : Type 0 where
  pub long : length d ≡ length labels
  pub whole : 2 * k ≤ length d
  pub filled : Filled (pos 0) (λ j. get_or (axis (constellation c) j) (get_or labels j 0) (pos 0)) d out (2 * k)

pub start : (c : Constellation) (labels : List ℕ) (d : List ℤ) → length d ≡ length labels → Placing c labels d d 0
start c labels d e = record { long = e; whole = omega arith; filled = filled-start (pos 0) _ d }

-- a turn places the two coordinates of a cell, whose labels are re and im
pub turn : {c : Constellation} {labels : List ℕ} {d out : List ℤ} {k : ℕ} {a b : ℤ} → Placing c labels d out k → 2 * k + 1 < length d
    → (re im : ℕ) → re ≡ get_or labels (2 * k) 0 → im ≡ get_or labels (2 * k + 1) 0
    → a ≡ get_or (axis (constellation c) 0) re (pos 0) → b ≡ get_or (axis (constellation c) 1) im (pos 0)
    → Placing c labels d (set (set out (2 * k) a) (2 * k + 1) b) (k + 1)
turn {c} {labels} {d} {out} {k} {a} {b} P h re im e f ra ib =
    let K = constellation c in
    let ea : a ≡ get_or (axis K (2 * k)) (get_or labels (2 * k) 0) (pos 0) = ra ∙ rw (axis_even K 0 refl, axis_even K (2 * k) (omega arith), e) in
    let eb : b ≡ get_or (axis K (2 * k + 1)) (get_or labels (2 * k + 1) 0) (pos 0) = ib ∙ rw (axis_of K k 1 (omega arith), f) in
    let one = filled_turn (pos 0) _ d out (2 * k) a (omega arith) ea P.filled in
    let two = filled_turn (pos 0) _ d (set out (2 * k) a) (2 * k + 1) b (omega arith) eb one in
    let n : 2 * k + 1 + 1 ≡ 2 * (k + 1) = omega arith in
    record { long = P.long; whole = omega arith; filled = rw n at two }

pub done : {c : Constellation} {labels : List ℕ} {d out : List ℤ} {k : ℕ} → Placing c labels d out k → length d ≤ 2 * k → out ≡ coordinates (constellation c) labels
unfolding coordinates
done {c} {labels} {d} {out} {k} P h =
    let e : 2 * k ≡ length labels = omega (arith, P.whole, P.long) in
    filled_end (pos 0) _ d out (length labels) P.long (rw e at P.filled)

-- the real labels stand at the even places of woven ones, the imaginary ones at the odd places
pub weave_even : (re im : List ℕ) (k : ℕ) → k < length re → get_or (weave re im) (2 * k) 0 ≡ get_or re k 0
weave_even re im k h = rw add-zero at (get_or-weave re im k 0 h (omega arith))

pub weave_odd : (re im : List ℕ) (k : ℕ) → k < length re → get_or (weave re im) (2 * k + 1) 0 ≡ get_or im k 0
weave_odd re im k h = get_or-weave re im k 1 h (omega arith)
