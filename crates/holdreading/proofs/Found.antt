-- What the code finds of digits and numbers. Assumes nothing.
use Prim.Native.Nat.{ℕ, suc, ◌+◌, ◌-◌, ◌*◌, ◌≤◌, ◌<◌}
use mathlib.Core.Path.{◌≡◌, refl, sym, ap, subst, ◌∙◌}
use mathlib.Core.Bool.{Bool, true, false, cond, ◌&&◌}
use mathlib.Core.Logic.{◌⊎◌, inl, inr}
use mathlib.Core.List.{List, [], ◌∷◌}
use native.Mathlib.Omega.{arith}
use borrow.Author.Tests.{lt-ltb, le-ltb, eqb-true, eq-eqb}
use lib.ListN.{length, get_or, take, drop}
use lib.Dec.{ltb, eqb}
use lib.IntN.{ℤ, pos, negsuc}
use lib.Seq.{drop-cons}
use Rattle.lists.specs.Bools.{every}
use Rattle.lists.proofs.Same.{same_number_refl, same_number_true}
use Rattle.lists.proofs.Bools.{holds-or, unless_true, both, and_left, and_right}
use Rattle.lists.proofs.Counting.{below_or}
use Rattle.cellbytes.specs.TwosComplement.{modulo, twos_complement}
use Rattle.cellbytes.specs.CellBytes.{signed, four_bits}
use Rattle.cellbytes.specs.Clauses.{Small}
use Rattle.cellbytes.proofs.TwosComplement.{lower, upper}
use Rattle.cellbytes.proofs.CellBytes.{small_pos, small_neg, signed_small, four-signed}
use Rattle.holdlines.specs.declared.Form.{Form}
use Rattle.holdlines.specs.declared.Form.TheVariants.{Old, New}
use Rattle.holdlines.specs.Hexadecimal.{is_digit, digit_value, value}
use Rattle.holdlines.specs.Files.{number_digits, read}
use Rattle.holdreading.specs.Clauses.{is_small, number_bytes, small_digits, bits_at, wide_bits, wide_digits, wide_at}
use Rattle.holdlines.specs.Clauses.{digit_or}
use Rattle.holdlines.proofs.Hexadecimal.{value_is}
use Rattle.holdlines.proofs.Numbers.{small_low, small_high}

-- a digit stands for its value, and any other byte for none
or-digit : (b : ℕ) → is_digit b ≡ true → digit_or b ≡ digit_value b
unfolding digit_or
or-digit b h = rw h

or_none : (b : ℕ) → is_digit b ≡ false → digit_or b ≡ 16
unfolding digit_or
or_none b h = rw h

-- the test of small numbers
pub is_small_lem : (v : ℤ) → Small v → is_small v ≡ true
unfolding is_small
is_small_lem v s = rw s.back (same_number_refl v)

pub small_is : (v : ℤ) → is_small v ≡ true → Small v
unfolding is_small
small_is v h = record { back = same_number_true (signed (four_bits v)) v h }

back_pos : (n : ℕ) → Small (pos n) → n < 8
unfolding four_bits modulo
back_pos n s = small_low n s.back

back_neg : (n : ℕ) → Small (negsuc n) → n < 8
unfolding four_bits modulo
back_neg n s = small_high n s.back

-- a 16-bit number is small exactly if it is one of the lowest eight or of the highest eight
wide_small : (n : ℕ) → n < 65536 → Small (twos_complement 65536 n) → (n < 8) ⊎ (65528 ≤ n)
wide_small n h s =
    elim (below_or n 32768) [
      | inl l ↦ inl (back_pos n (subst Small (lower 65536 n l) s))
      | inr l ↦ inr (omega (arith, back_neg (65535 - n) (subst Small (upper 65536 n l) s)))
    ]

four_pos : (n : ℕ) → n < 16 → four_bits (pos n) ≡ n
unfolding four_bits modulo
four_pos n h = omega arith

four_neg : (n : ℕ) → n < 16 → four_bits (negsuc n) ≡ 15 - n
unfolding four_bits modulo
four_neg n h = omega arith

lowest : (n : ℕ) → n < 8 → (is_small (twos_complement 65536 n) ≡ true) × (four_bits (twos_complement 65536 n) ≡ n)
lowest n h =
    let e = lower 65536 n (omega arith) in
    (rw e (is_small_lem (pos n) (small_pos n h)), rw e (four_pos n (omega arith)))

highest : (n : ℕ) → 65528 ≤ n → n < 65536 → (is_small (twos_complement 65536 n) ≡ true) × (four_bits (twos_complement 65536 n) ≡ n - 65520)
highest n h k =
    let e = upper 65536 n (omega arith) in
    (rw e (is_small_lem (negsuc (65535 - n)) (small_neg (65535 - n) (omega arith))), rw e (four_neg (65535 - n) (omega arith) ∙ omega arith))

-- what four digits stand for
abbrev wide : ℕ → ℕ → ℕ → ℕ → ℕ
wide a b c d = a * 4096 + (b * 256 + (c * 16 + d))

abbrev bits_or : ℕ → ℕ
bits_or n = cond (is_small (twos_complement 65536 n)) (four_bits (twos_complement 65536 n)) 16

bits_lowest : (n : ℕ) → n < 8 → bits_or n ≡ n
bits_lowest n h = rw (lowest n h).0 (lowest n h).1

bits_highest : (n : ℕ) → 65528 ≤ n → n < 65536 → bits_or n ≡ n - 65520
bits_highest n h k = rw (highest n h k).0 (highest n h k).1

bits-between : (n : ℕ) → 8 ≤ n → n < 65528 → bits_or n ≡ 16
bits-between n h k =
    rw (unless_true (is_small (twos_complement 65536 n)) (λ e.
    elim (wide_small n (omega arith) (small_is (twos_complement 65536 n) e)) [ inl l ↦ absurd (omega arith) | inr l ↦ absurd (omega arith) ]))

-- three digits above the lowest: all 0, all 15, or neither
three : (a b c x : ℕ) → a ≡ x → b ≡ x → c ≡ x → (eqb a x && (eqb b x && eqb c x)) ≡ true
three a b c x e f g = both (eq-eqb a x e) (both (eq-eqb b x f) (eq-eqb c x g))

not_three : (a b c x : ℕ) → (a ≡ x → b ≡ x → c ≡ x → ⊥) → (eqb a x && (eqb b x && eqb c x)) ≡ false
not_three a b c x n =
    unless_true (eqb a x && (eqb b x && eqb c x)) (λ t.
    let r = and_right (eqb a x) (eqb b x && eqb c x) t in
    n (eqb-true a x (and_left (eqb a x) (eqb b x && eqb c x) t)) (eqb-true b x (and_left (eqb b x) (eqb c x) r)) (eqb-true c x (and_right (eqb b x) (eqb c x) r)))

wide_low : (a b c d : ℕ) → a < 16 → b < 16 → c < 16 → d < 8 → wide_bits a b c d ≡ bits_or (wide a b c d)
unfolding wide_bits
wide_low a b c d h i j k =
    elim (below_or (wide a b c d) 8) [
      | inl l ↦ rw (lt-ltb d 8 k, three a b c 0 (omega arith) (omega arith) (omega arith)) (sym (bits_lowest (wide a b c d) l ∙ omega arith))
      | inr l ↦ rw (lt-ltb d 8 k, not_three a b c 0 (λ e f g. omega arith)) (sym (bits-between (wide a b c d) l (omega arith)))
    ]

wide_high : (a b c d : ℕ) → a < 16 → b < 16 → c < 16 → 8 ≤ d → d < 16 → wide_bits a b c d ≡ bits_or (wide a b c d)
unfolding wide_bits
wide_high a b c d h i j k m =
    elim (below_or (wide a b c d) 65528) [
      | inl l ↦ rw (le-ltb d 8 k, not_three a b c 15 (λ e f g. omega arith)) (sym (bits-between (wide a b c d) (omega arith) l))
      | inr l ↦
          rw (le-ltb d 8 k, three a b c 15 (omega arith) (omega arith) (omega arith)) (sym (bits_highest (wide a b c d) l (omega arith) ∙ omega arith))
    ]

wide-bits : (a b c d : ℕ) → a < 16 → b < 16 → c < 16 → d < 16 → wide_bits a b c d ≡ bits_or (wide a b c d)
wide-bits a b c d h i j k = elim (below_or d 8) [ inl l ↦ wide_low a b c d h i j l | inr l ↦ wide_high a b c d h i j l k ]

-- one of the four that is no digit
either : (t : Bool) (n : ℕ) → cond t n n ≡ n
either true n = refl
either false n = refl

wide_none : (a b c : ℕ) → wide_bits a b c 16 ≡ 16
unfolding wide_bits
wide_none a b c = either (eqb a 15 && (eqb b 15 && eqb c 15)) 16

no_wide : (a b c d : ℕ) → (eqb a 0 && (eqb b 0 && eqb c 0)) ≡ false → (eqb a 15 && (eqb b 15 && eqb c 15)) ≡ false → wide_bits a b c d ≡ 16
unfolding wide_bits
no_wide a b c d e f = rw (e, f) (either (ltb d 8) 16)

-- four digits that stand for a small number are digits
chosen : (t : Bool) (d : ℕ) → cond t d 16 < 16 → (t ≡ true) × (d < 16)
chosen true d h = (refl, h)
chosen false d h = absurd (omega arith)

three_are : (a b c x : ℕ) → (eqb a x && (eqb b x && eqb c x)) ≡ true → (a ≡ x) × ((b ≡ x) × (c ≡ x))
three_are a b c x t =
    let r = and_right (eqb a x) (eqb b x && eqb c x) t in
    (eqb-true a x (and_left (eqb a x) (eqb b x && eqb c x) t), (eqb-true b x (and_left (eqb b x) (eqb c x) r), eqb-true c x (and_right (eqb b x) (eqb c x) r)))

wide_digits_low : (a b c d : ℕ) → wide_bits a b c d < 16 → (a < 16) × ((b < 16) × ((c < 16) × (d < 16)))
unfolding wide_bits
wide_digits_low a b c d h =
    elim (below_or d 8) [
      | inl l ↦
          let t = chosen (eqb a 0 && (eqb b 0 && eqb c 0)) d (rw (lt-ltb d 8 l) at h) in
          let e = three_are a b c 0 t.0 in
          (omega (arith, e.0), (omega (arith, e.1.0), (omega (arith, e.1.1), t.1)))
      | inr l ↦
          let t = chosen (eqb a 15 && (eqb b 15 && eqb c 15)) d (rw (le-ltb d 8 l) at h) in
          let e = three_are a b c 15 t.0 in
          (omega (arith, e.0), (omega (arith, e.1.0), (omega (arith, e.1.1), t.1)))
    ]

module _ (line : List ℕ) (at : ℕ) where
  pub digits_low : wide_at line at < 16
      → (digit_or (get_or line at 0) < 16)
      × ((digit_or (get_or line (at + 1) 0) < 16) × ((digit_or (get_or line (at + 2) 0) < 16) × (digit_or (get_or line (at + 3) 0) < 16)))
  unfolding wide_at
  digits_low h = wide_digits_low _ _ _ _ h

  pub wide_is : (a b c d : ℕ) → a ≡ digit_or (get_or line at 0) → b ≡ digit_or (get_or line (at + 1) 0) → c ≡ digit_or (get_or line (at + 2) 0)
      → d ≡ digit_or (get_or line (at + 3) 0) → wide_digits (a ∷ (b ∷ (c ∷ (d ∷ [])))) ≡ wide_at line at
  unfolding wide_digits wide_at
  wide_is a b c d e f g h = rw (e, f, g, h) refl

and_false : (t : Bool) → (t && false) ≡ false
and_false true = refl
and_false false = refl

-- four digits of the old form, and one of the new
module _ (a b c d : ℕ) where
  abbrev Bytes : List ℕ
  Bytes = a ∷ (b ∷ (c ∷ (d ∷ [])))

  abbrev Right : Type 0
  Right = wide_bits (digit_or a) (digit_or b) (digit_or c) (digit_or d) ≡ cond (small_digits Old Bytes) (four_bits (read Old Bytes)) 16

  old_all : is_digit a ≡ true → is_digit b ≡ true → is_digit c ≡ true → is_digit d ≡ true → Right
  unfolding small_digits read value every number_digits
  old_all p q r s =
      let n : digit_value d * 1 + 0 ≡ digit_value d = omega arith in
      rw (p, q, r, s, or-digit a p, or-digit b q, or-digit c r, or-digit d s, n)
      (wide-bits (digit_value a) (digit_value b) (digit_value c) (digit_value d) (value_is a p).0 (value_is b q).0 (value_is c r).0 (value_is d s).0)

  old_a : is_digit a ≡ false → Right
  unfolding small_digits read value every number_digits
  old_a p = rw (p, or_none a p) (no_wide 16 (digit_or b) (digit_or c) (digit_or d) refl refl)

  old_b : is_digit a ≡ true → is_digit b ≡ false → Right
  unfolding small_digits read value every number_digits
  old_b p q =
      rw (p, q, or_none b q) (no_wide (digit_or a) 16 (digit_or c) (digit_or d) (and_false (eqb (digit_or a) 0)) (and_false (eqb (digit_or a) 15)))

  old_c : is_digit a ≡ true → is_digit b ≡ true → is_digit c ≡ false → Right
  unfolding small_digits read value every number_digits
  old_c p q r =
      rw (p, q, r, or_none c r)
      (no_wide (digit_or a) (digit_or b) 16 (digit_or d) (rw (and_false (eqb (digit_or b) 0)) (and_false (eqb (digit_or a) 0)))
      (rw (and_false (eqb (digit_or b) 15)) (and_false (eqb (digit_or a) 15))))

  old_d : is_digit a ≡ true → is_digit b ≡ true → is_digit c ≡ true → is_digit d ≡ false → Right
  unfolding small_digits read value every number_digits
  old_d p q r s = rw (p, q, r, s, or_none d s) (wide_none (digit_or a) (digit_or b) (digit_or c))

  old_bytes : Right
  old_bytes =
      elim (holds-or (is_digit a)) [
        | inr p ↦ old_a p
        | inl p ↦ elim (holds-or (is_digit b)) [
          | inr q ↦ old_b p q
          | inl q ↦ elim (holds-or (is_digit c)) [
            | inr r ↦ old_c p q r
            | inl r ↦ elim (holds-or (is_digit d)) [ inl s ↦ old_all p q r s | inr s ↦ old_d p q r s ]
          ]
        ]
      ]

new-digit : (n : ℕ) → n < 16 → (is_small (twos_complement 16 n) ≡ true) × (four_bits (twos_complement 16 n) ≡ n)
unfolding signed
new-digit n h = (is_small_lem (signed n) (signed_small n h), four-signed n h)

new-one : (b : ℕ) → is_digit b ≡ true → digit_or b ≡ cond (small_digits New (b ∷ [])) (four_bits (read New (b ∷ []))) 16
unfolding small_digits read value every number_digits
new-one b p =
    let n : digit_value b * 1 + 0 ≡ digit_value b = omega arith in
    let d = new-digit (digit_value b) (value_is b p).0 in
    rw (p, or-digit b p, n, d.0) (sym d.1)

new_none : (b : ℕ) → is_digit b ≡ false → digit_or b ≡ cond (small_digits New (b ∷ [])) (four_bits (read New (b ∷ []))) 16
unfolding small_digits read value every number_digits
new_none b p = rw (p, or_none b p)

new-bytes : (b : ℕ) → digit_or b ≡ cond (small_digits New (b ∷ [])) (four_bits (read New (b ∷ []))) 16
new-bytes b = elim (holds-or (is_digit b)) [ inl p ↦ new-one b p | inr p ↦ new_none b p ]

-- the bytes of number k of a line
four_bytes : (l : List ℕ) (at : ℕ) → at + 4 ≤ length l → take 4 (drop at l) ≡ get_or l at 0 ∷ (get_or l (at + 1) 0 ∷ (get_or l (at + 2) 0 ∷ (get_or l (at + 3) 0 ∷ [])))
four_bytes l at h =
    let one : suc at ≡ at + 1 = omega arith in
    let two : suc (suc at) ≡ at + 2 = omega arith in
    let three : suc (suc (suc at)) ≡ at + 3 = omega arith in
    rw (drop-cons l at 0 (omega arith), drop-cons l (suc at) 0 (omega arith), drop-cons l (suc (suc at)) 0 (omega arith), drop-cons l (suc (suc (suc at))) 0 (omega arith), three, two, one)

-- so the code finds the bits of number k
module _ (line : List ℕ) (k : ℕ) where
  pub old_room : (form : Form) → form ≡ Old → k * number_digits form + number_digits form ≤ length line → 4 * k + 4 ≤ length line
  unfolding number_digits
  old_room form e h = let r : k * 4 + 4 ≤ length line = subst (λ f. k * number_digits f + number_digits f ≤ length line) e h in omega arith

  pub new_room : (form : Form) → form ≡ New → k * number_digits form + number_digits form ≤ length line → k < length line
  unfolding number_digits
  new_room form e h = let r : k * 1 + 1 ≤ length line = subst (λ f. k * number_digits f + number_digits f ≤ length line) e h in omega arith

  old_at : 4 * k + 4 ≤ length line → wide_at line (4 * k) ≡ bits_at Old line k
  unfolding wide_at bits_at number_bytes number_digits
  old_at h =
      let e : k * 4 ≡ 4 * k = omega arith in
      rw (e, four_bytes line (4 * k) h) (old_bytes (get_or line (4 * k) 0) (get_or line (4 * k + 1) 0) (get_or line (4 * k + 2) 0) (get_or line (4 * k + 3) 0))

  new_at : k < length line → digit_or (get_or line k 0) ≡ bits_at New line k
  unfolding bits_at number_bytes number_digits
  new_at h =
      let e : k * 1 ≡ k = omega arith in
      rw (e, drop-cons line k 0 h) (new-bytes (get_or line k 0))

  pub old_found : (form : Form) (r : ℕ) → form ≡ Old → k * number_digits form + number_digits form ≤ length line → r ≡ wide_at line (4 * k) → r ≡ bits_at form line k
  old_found form r e h f = f ∙ old_at (old_room form e h) ∙ ap (λ m. bits_at m line k) (sym e)

  pub new-found : (form : Form) (r : ℕ) → form ≡ New → k * number_digits form + number_digits form ≤ length line → r ≡ digit_or (get_or line k 0) → r ≡ bits_at form line k
  new-found form r e h f = f ∙ new_at (new_room form e h) ∙ ap (λ m. bits_at m line k) (sym e)
