-- Signed numbers, and lists of them compared one by one. Assumes nothing.
use Prim.Native.Nat.{ℕ, ◌+◌, ◌%◌, ◌^◌, ◌≤◌, ◌<◌}
use mathlib.Core.Bool.{Bool, true, false, ◌&&◌}
use mathlib.Core.Path.{◌≡◌, refl, sym, ap, ap₂, ◌∙◌}
use mathlib.Core.List.{List, [], ◌∷◌}
use native.Mathlib.Numerals.{add-one}
use native.Mathlib.Omega.{arith}
use borrow.Author.Tests.{eq-eqb, ne_eqb, eqb-true, lt-ltb}
use lib.Bits.{bit_and, and_mask}
use lib.Dec.{eqb}
use lib.ListN.{length, get_or, drop, drop_of_length-le}
use lib.Seq.{drop-cons}
use lib.IntN.{ℤ, pos, negsuc}
use mir.Syntax.{w16}
use mir.Val.{SFits, to_z, of_z}
use mir.Facts.{to_z-of_z}
use Rattle.lists.proofs.Bools.{never_both, and_left, and_right, and_assoc, and_true}
use Rattle.lists.specs.Same.{same_number, same_numbers}

-- a number is the number that it is
pub same_number_refl : (v : ℤ) → same_number v v ≡ true
unfolding same_number
same_number_refl (pos n) = eq-eqb n n refl
same_number_refl (negsuc n) = eq-eqb n n refl

-- and no other
pub same_number_true : (v w : ℤ) → same_number v w ≡ true → v ≡ w
unfolding same_number
same_number_true (pos a) (pos b) e = ap pos (eqb-true a b e)
same_number_true (pos a) (negsuc b) e = cc
same_number_true (negsuc a) (pos b) e = cc
same_number_true (negsuc a) (negsuc b) e = ap negsuc (eqb-true a b e)

-- the test of lists is equality
pub same_numbers_refl : (l : List ℤ) → same_numbers l l ≡ true
unfolding same_numbers
same_numbers_refl [] = refl
same_numbers_refl (v ∷ l) = rw (same_number_refl v) (same_numbers_refl l)

pub same_numbers_true : (l m : List ℤ) → same_numbers l m ≡ true → l ≡ m
unfolding same_numbers
same_numbers_true [] [] e = refl
same_numbers_true [] (w ∷ m) e = cc
same_numbers_true (v ∷ l) [] e = cc
same_numbers_true (v ∷ l) (w ∷ m) e =
    ap₂ ◌∷◌ (same_number_true v w (and_left (same_number v w) (same_numbers l m) e)) (same_numbers_true l m (and_right (same_number v w) (same_numbers l m) e))

-- two numbers are equal exactly if their bits are
pub bits_same : (v w : ℤ) → SFits w16 v → SFits w16 w → eqb (of_z w16 v) (of_z w16 w) ≡ same_number v w
bits_same v w f g = go (same_number v w) refl
  where
    go : (b : Bool) → same_number v w ≡ b → eqb (of_z w16 v) (of_z w16 w) ≡ b
    go true e = eq-eqb (of_z w16 v) (of_z w16 w) (ap (of_z w16) (same_number_true v w e))
    go false e =
        ne_eqb (of_z w16 v) (of_z w16 w) (λ h.
        let same : v ≡ w = sym (to_z-of_z {w = w16} f) ∙ ap (to_z w16) h ∙ to_z-of_z {w = w16} g in
        never_both (same_number v w) (rw same (same_number_refl w)) e)

-- before the turn at place i of a loop that looks at every place: b, and the lists from there on are equal, exactly if the whole ones are
module _ (x y : List ℤ) (i : ℕ) (b : Bool) (k : length x ≡ length y) where
  from_place : i < length x
      → same_numbers (drop i x) (drop i y) ≡ same_number (get_or x i (pos 0)) (get_or y i (pos 0)) && same_numbers (drop (i + 1) x) (drop (i + 1) y)
  unfolding same_numbers
  from_place h = rw (drop-cons x i (pos 0) h, drop-cons y i (pos 0) (omega arith), add-one i)

  pub same_turn : (r : Bool) → i < length x → r ≡ same_number (get_or x i (pos 0)) (get_or y i (pos 0))
      → ((b && r) && same_numbers (drop (i + 1) x) (drop (i + 1) y)) ≡ (b && same_numbers (drop i x) (drop i y))
  same_turn r h e = and_assoc b r _ ∙ rw (e, from_place h)

  -- nothing is left
  pub same_end : length x ≤ i → b ≡ (b && same_numbers (drop i x) (drop i y))
  unfolding same_numbers
  same_end h = and_true b ∙ rw (drop_of_length-le x {i = i} h, drop_of_length-le y {i = i} (omega arith))

-- the four lowest binary digits of a number are a number themselves
pub low_digits : (n : ℕ) → to_z w16 (bit_and n 15) ≡ pos (n % 16)
low_digits n =
    let e : bit_and n 15 ≡ n % 16 = and_mask n 4 in
    rw (e, lt-ltb (n % 16) (2 ^ 15) (omega arith))
