-- Coordinates back to the labels of their level bits, by their four lowest binary digits. Assumes nothing.
use Prim.Native.Nat.{ℕ, ◌+◌, ◌*◌, ◌/◌, ◌≤◌, ◌<◌}
use mathlib.Core.Bool.{false}
use mathlib.Core.Path.{◌≡◌, refl, sym, ◌∙◌}
use mathlib.Core.Logic.{◌⊎◌, inl, inr}
use mathlib.Core.List.{List}
use native.Mathlib.Omega.{arith}
use borrow.Author.Tests.{ne_eqb, lt-ltb, le-ltb}
use lib.ListN.{length, get_or, set}
use lib.Bits.{bit_and}
use lib.IntN.{ℤ, pos, negsuc}
use mir.Syntax.{w16}
use mir.Val.{SFits, to_z, of_z}
use mir.Facts.{to_z-of_z}
use Rattle.lists.specs.Bools.{every}
use Rattle.lists.specs.Lists.{table}
use Rattle.lists.specs.Same.{same_number}
use Rattle.lists.proofs.Counting.{below_or}
use Rattle.lists.proofs.Tables.{Filled, filled-start, filled_turn, filled_end, get_or-table}
use Rattle.cellbytes.specs.CellBytes.{signed}
use Rattle.cellbytes.specs.TwosComplement.{twos_complement}
use Rattle.cellbytes.proofs.Bits.{same_below}
use Rattle.block.specs.declared.Constellation.{Constellation}
use Rattle.block.specs.declared.Constellation.TheVariants.{Qam4, Qam16, Sm64, HmSym, HmMix}
use Rattle.block.specs.Mapping.{coordinate, qam4, qam16, standard64, symmetric64, constellation, axis}
use Rattle.block.specs.Reading.{place_of, labels_of}
use Rattle.block.proofs.Mapping.{length-numbers}
use Rattle.mapping.specs.Labels.{axis_labels}
use Rattle.mapping.specs.Clauses.{labels_by, label_by}
use Rattle.mapping.proofs.Coordinates.{both_axes, axis_of}
use Rattle.mapping.proofs.Signed.{digits_low}

-- none of 7, 5, .. -7
pub record None (v : ℤ) : Type 0 where
  pub p7 : same_number (pos 7) v ≡ false
  pub p5 : same_number (pos 5) v ≡ false
  pub p3 : same_number (pos 3) v ≡ false
  pub p1 : same_number (pos 1) v ≡ false
  pub n1 : same_number (negsuc 0) v ≡ false
  pub n3 : same_number (negsuc 2) v ≡ false
  pub n5 : same_number (negsuc 4) v ≡ false
  pub n7 : same_number (negsuc 6) v ≡ false

none_qam4 : (v : ℤ) → None v → place_of qam4 v ≡ 2
unfolding place_of table qam4 coordinate
none_qam4 v n = rw (n.p1, n.n1)

none_qam16 : (v : ℤ) → None v → place_of qam16 v ≡ 4
unfolding place_of table qam16 coordinate
none_qam16 v n = rw (n.p3, n.p1, n.n1, n.n3)

none_standard : (v : ℤ) → None v → place_of standard64 v ≡ 8
unfolding place_of table standard64 coordinate
none_standard v n = rw (n.p7, n.p5, n.p3, n.p1, n.n1, n.n3, n.n5, n.n7)

none_symmetric : (v : ℤ) → None v → place_of symmetric64 v ≡ 8
unfolding place_of table symmetric64 coordinate
none_symmetric v n = rw (n.p7, n.n1, n.p5, n.n3, n.p3, n.n5, n.p1, n.n7)

-- the labellings of the constellations are among these four
pub data Known : List ℤ → Type 0 where
  k4 : Known qam4
  k16 : Known qam16
  standard : Known standard64
  symmetric : Known symmetric64

known-axis : (c : Constellation) (a : ℕ) → a < 2 → Known (axis (constellation c) a)
unfolding axis constellation
known-axis Qam4 = both_axes _ k4 k4
known-axis Qam16 = both_axes _ k16 k16
known-axis Sm64 = both_axes _ standard standard
known-axis HmSym = both_axes _ symmetric symmetric
known-axis HmMix = both_axes _ symmetric standard

none_known : {l : List ℤ} → Known l → (v : ℤ) → None v → place_of l v ≡ place_of l (pos 0)
unfolding place_of same_number table qam4 qam16 standard64 symmetric64 coordinate
none_known k4 v n = none_qam4 v n
none_known k16 v n = none_qam16 v n
none_known standard v n = none_standard v n
none_known symmetric v n = none_symmetric v n

-- a number below -8 or above 7 is none of them
none_above : (n : ℕ) → 8 ≤ n → None (pos n)
unfolding same_number
none_above n h = record {
  p7 = ne_eqb 7 n (omega arith);
  p5 = ne_eqb 5 n (omega arith);
  p3 = ne_eqb 3 n (omega arith);
  p1 = ne_eqb 1 n (omega arith);
  n1 = refl;
  n3 = refl;
  n5 = refl;
  n7 = refl;
}

none_below : (n : ℕ) → 8 ≤ n → None (negsuc n)
unfolding same_number
none_below n h = record {
  p7 = refl;
  p5 = refl;
  p3 = refl;
  p1 = refl;
  n1 = ne_eqb 0 n (omega arith);
  n3 = ne_eqb 2 n (omega arith);
  n5 = ne_eqb 4 n (omega arith);
  n7 = ne_eqb 6 n (omega arith);
}

-- and one between them is that of its four lowest binary digits
digits_above : (n : ℕ) → n < 8 → signed (bit_and (of_z w16 (pos n)) 15) ≡ pos n
unfolding signed twos_complement same_number every table
digits_above = same_below (λ n. signed (bit_and (of_z w16 (pos n)) 15)) pos 8 refl

digits-below : (n : ℕ) → n < 8 → signed (bit_and (of_z w16 (negsuc n)) 15) ≡ negsuc n
unfolding signed twos_complement same_number every table
digits-below = same_below (λ n. signed (bit_and (of_z w16 (negsuc n)) 15)) negsuc 8 refl

-- so its label is found by its digits
module _ {l : List ℤ} (known : Known l) {labels : List ℕ} (e : labels ≡ labels_by l) where
  held : (v : ℤ) → signed (bit_and (of_z w16 v) 15) ≡ v → get_or labels (bit_and (of_z w16 v) 15) 0 ≡ place_of l v
  unfolding labels_by
  held v h = rw (e, get_or-table 0 (λ k. place_of l (signed k)) 16 (bit_and (of_z w16 v) 15) (digits_low (of_z w16 v)), h)

  other : (v : ℤ) → None v → get_or labels 0 0 ≡ place_of l v
  unfolding labels_by signed twos_complement
  other v n = rw (e, get_or-table 0 (λ k. place_of l (signed k)) 16 0 (omega arith)) (sym (none_known known v n))

  pub label_by_lem : (v : ℤ) → label_by labels v ≡ place_of l v
  label_by_lem (pos n) = go (below_or n 8)
    where
      go : (n < 8) ⊎ (8 ≤ n) → label_by labels (pos n) ≡ place_of l (pos n)
      go (inl h) = rw (lt-ltb n 8 h) (held (pos n) (digits_above n h))
      go (inr h) = rw (le-ltb n 8 h) (other (pos n) (none_above n h))
  label_by_lem (negsuc n) = go (below_or n 8)
    where
      go : (n < 8) ⊎ (8 ≤ n) → label_by labels (negsuc n) ≡ place_of l (negsuc n)
      go (inl h) = rw (lt-ltb n 8 h) (held (negsuc n) (digits-below n h))
      go (inr h) = rw (le-ltb n 8 h) (other (negsuc n) (none_below n h))

-- the label of a number that was read from a slice of signed 16-bit numbers, on an axis of a constellation
pub number_read : (c : Constellation) (a : ℕ) → a < 2 → (v : ℤ) (labels : List ℕ) (r : ℕ) → SFits w16 v → labels ≡ labels_by (axis (constellation c) a)
    → r ≡ label_by labels (to_z w16 (of_z w16 v)) → r ≡ place_of (axis (constellation c) a) v
number_read c a h v labels r s e f = f ∙ rw (to_z-of_z {w = w16} s) (label_by_lem (known-axis c a h) e v)

-- before the turn at cell k of the labels of one axis
pub record Axis (c : Constellation) (a : ℕ) (cells : List ℤ) (d out : List ℕ) (k : ℕ) : Type 0 where
  pub whole : k ≤ length d
  pub filled : Filled 0 (λ i. get_or (labels_of (constellation c) cells) (2 * i + a) 0) d out k

pub axis-start : (c : Constellation) (a : ℕ) (cells : List ℤ) (d : List ℕ) → Axis c a cells d d 0
axis-start c a cells d = record { whole = omega arith; filled = filled-start 0 _ d }

pub axis_turn : {c : Constellation} {a : ℕ} {cells : List ℤ} {d out : List ℕ} {k : ℕ} → Axis c a cells d out k → a < 2 → k < length d → length cells ≡ 2 * length d
    → (r : ℕ) → r ≡ place_of (axis (constellation c) a) (get_or cells (2 * k + a) (pos 0)) → Axis c a cells d (set out k r) (k + 1)
unfolding labels_of
axis_turn {c} {a} {cells} {d} {out} {k} P h m n r e =
    let K = constellation c in
    let f = get_or-table 0 (λ j. place_of (axis K j) (get_or cells j (pos 0))) (length cells) (2 * k + a) (omega arith) in
    record { whole = omega arith; filled = filled_turn 0 _ d out k r m (e ∙ sym (rw (axis_of K k a h) at f)) P.filled }

pub axis_done : {c : Constellation} {a : ℕ} {cells : List ℤ} {d out : List ℕ} {k : ℕ} → Axis c a cells d out k → length d ≤ k → length cells ≡ 2 * length d
    → out ≡ axis_labels a (labels_of (constellation c) cells)
unfolding axis_labels
axis_done {c} {a} {cells} {d} {out} {k} P h n =
    let e : length (labels_of (constellation c) cells) / 2 ≡ length d = omega (arith, length-numbers (constellation c) cells) in
    let f : k ≡ length d = omega (arith, P.whole) in
    rw e (filled_end 0 _ d out _ refl (rw f at P.filled))
