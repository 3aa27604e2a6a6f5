-- Numbers and their digits in either form give each other back. Assumes nothing.
use Prim.Native.Nat.{ℕ, zero, suc, ◌+◌, ◌-◌, ◌*◌, ◌/◌, ◌%◌, ◌^◌, ◌≤◌, ◌<◌}
use mathlib.Core.Path.{◌≡◌, refl, sym, ap, ap₂, subst, ◌∙◌}
use mathlib.Core.Bool.{true, ◌&&◌}
use mathlib.Core.Logic.{inl, inr}
use mathlib.Core.List.{List, [], ◌∷◌, ◌++◌, map, map-append}
use native.Mathlib.Nat.{suc-mul, add_comm}
use native.Mathlib.Omega.{arith}
use lib.ListN.{length, take, drop, length-append, length-take, length-drop, take-append-drop}
use lib.Seq.{take_at, drop_at}
use lib.IntN.{ℤ, pos, negsuc, nat_abs}
use lib.Dec.{T}
use lib.Signed.{non_neg}
use Rattle.lists.specs.Bools.{every}
use Rattle.lists.proofs.Bools.{both, and_left, and_right, every_append}
use Rattle.lists.proofs.Counting.{below_or}
use Rattle.cellbytes.specs.TwosComplement.{modulo, twos_complement}
use Rattle.cellbytes.specs.CellBytes.{signed, four_bits}
use Rattle.cellbytes.specs.Clauses.{Small, AllSmall}
use Rattle.cellbytes.proofs.TwosComplement.{modulo_low, modulo_twos, lower, upper, twos_pos, twos_neg}
use Rattle.holdlines.specs.declared.Form.{Form}
use Rattle.holdlines.specs.declared.Form.TheVariants.{Old, New}
use Rattle.holdlines.specs.Hexadecimal.{is_digit, digits, value}
use Rattle.holdlines.specs.Files.{number_digits, written, read, all_written, all_read}
use Rattle.holdlines.proofs.Hexadecimal.{power, length_digits, digits_are, value-digits, value_low, digits_value}

-- every byte of a list is a digit exactly if those of its parts are
pub digits-parts : (n : ℕ) (bs : List ℕ) → every (map is_digit bs) ≡ true → (every (map is_digit (take n bs)) ≡ true) × (every (map is_digit (drop n bs)) ≡ true)
digits-parts n bs h =
    let two : (every (map is_digit (take n bs)) && every (map is_digit (drop n bs))) ≡ true =
    sym (every_append (map is_digit (take n bs)) (map is_digit (drop n bs))) ∙ ap every (sym (map-append is_digit (take n bs) (drop n bs)))
    ∙ ap (λ l. every (map is_digit l)) (take-append-drop n bs) ∙ h in
    (and_left (every (map is_digit (take n bs))) (every (map is_digit (drop n bs))) two, and_right (every (map is_digit (take n bs))) (every (map is_digit (drop n bs))) two)

-- every form holds -8 to 7
eight : (form : Form) → 8 ≤ 16 ^ number_digits form / 2
unfolding number_digits
eight Old = omega arith
eight New = omega arith

-- a small number is one of 0 to 7 or of -1 to -8
pub small_low : (n : ℕ) → signed (n % 16) ≡ pos n → n < 8
unfolding signed
small_low n e =
    elim (below_or (n % 16) 8) [
      | inl l ↦ let m : n % 16 ≡ n = ap nat_abs (sym (lower 16 (n % 16) l) ∙ e) in omega (arith, l, m)
      | inr l ↦ absurd (subst (λ z. T (non_neg z)) (sym e ∙ upper 16 (n % 16) l) tt)
    ]

pub small_high : (n : ℕ) → signed (15 - n % 16) ≡ negsuc n → n < 8
unfolding signed
small_high n e =
    elim (below_or (15 - n % 16) 8) [
      | inl l ↦ absurd (subst (λ z. T (non_neg z)) (sym (lower 16 (15 - n % 16) l) ∙ e) tt)
      | inr l ↦
          let m : suc (15 - (15 - n % 16)) ≡ suc n = ap nat_abs (sym (upper 16 (15 - n % 16) l) ∙ e) in
          omega (arith, l, m)
    ]

-- so its digits give it back in either form
twos_small : (form : Form) (v : ℤ) → Small v → twos_complement (16 ^ number_digits form) (modulo (16 ^ number_digits form) v) ≡ v
unfolding four_bits modulo
twos_small form (pos n) s = twos_pos (16 ^ number_digits form) n (omega (arith, small_low n s.back, eight form))
twos_small form (negsuc n) s = twos_neg (16 ^ number_digits form) n (omega (arith, small_high n s.back, eight form))

-- a number in two's complement, written and read
module _ (form : Form) where
  pub length-written : (v : ℤ) → length (written form v) ≡ number_digits form
  unfolding written
  length-written v = length_digits (number_digits form) (modulo (16 ^ number_digits form) v)

  pub written_are : (v : ℤ) → every (map is_digit (written form v)) ≡ true
  unfolding written
  written_are v = digits_are (number_digits form) (modulo (16 ^ number_digits form) v) (modulo_low (16 ^ number_digits form) v (power (number_digits form)))

  read-modulo : (v : ℤ) → read form (written form v) ≡ twos_complement (16 ^ number_digits form) (modulo (16 ^ number_digits form) v)
  unfolding read written
  read-modulo v =
      ap (twos_complement (16 ^ number_digits form))
      (value-digits (number_digits form) (modulo (16 ^ number_digits form) v) (modulo_low (16 ^ number_digits form) v (power (number_digits form))))

  pub written_read : (bs : List ℕ) → length bs ≡ number_digits form → every (map is_digit bs) ≡ true → written form (read form bs) ≡ bs
  unfolding read written
  written_read bs e h =
      let low : value bs < 16 ^ number_digits form = subst (λ w. value bs < 16 ^ w) e (value_low bs h) in
      ap (digits (number_digits form)) (modulo_twos (16 ^ number_digits form) (value bs) low) ∙ ap (λ w. digits w (value bs)) (sym e) ∙ digits_value bs h

  pub read-written : (v : ℤ) → Small v → read form (written form v) ≡ v
  read-written v s = read-modulo v ∙ twos_small form v s

  -- numbers one after the other
  pub length-all_written : (vs : List ℤ) → length (all_written form vs) ≡ length vs * number_digits form
  unfolding all_written
  length-all_written [] = omega arith
  length-all_written (v ∷ vs) =
      length-append (written form v) (all_written form vs) ∙ ap₂ ◌+◌ (length-written v) (length-all_written vs) ∙ sym (suc-mul (length vs) (number_digits form) ∙ add_comm _ _)

  pub length-all_read : (n : ℕ) (bs : List ℕ) → length (all_read form n bs) ≡ n
  unfolding all_read
  length-all_read zero bs = refl
  length-all_read (suc n) bs = ap suc (length-all_read n (drop (number_digits form) bs))

  pub all_written_are : (vs : List ℤ) → every (map is_digit (all_written form vs)) ≡ true
  unfolding all_written every
  all_written_are [] = refl
  all_written_are (v ∷ vs) =
      rw (map-append is_digit (written form v) (all_written form vs), every_append (map is_digit (written form v)) (map is_digit (all_written form vs)))
      (both (written_are v) (all_written_are vs))

  pub all_read-written : (vs : List ℤ) → AllSmall vs → all_read form (length vs) (all_written form vs) ≡ vs
  unfolding all_read all_written
  all_read-written [] s = refl
  all_read-written (v ∷ vs) s =
      ap₂ ◌∷◌ (ap (read form) (take_at (written form v) (all_written form vs) (number_digits form) (length-written v)) ∙ read-written v (s.small 0))
      (ap (all_read form (length vs)) (drop_at (written form v) (all_written form vs) (number_digits form) (length-written v))
      ∙ all_read-written vs (record { small = λ k. s.small (suc k) }))

  pub all_written-read : (n : ℕ) (bs : List ℕ) → length bs ≡ n * number_digits form → every (map is_digit bs) ≡ true → all_written form (all_read form n bs) ≡ bs
  unfolding all_read all_written
  all_written-read zero [] e h = refl
  all_written-read zero (b ∷ bs) e h = absurd (omega (arith, e))
  all_written-read (suc n) bs e h =
      let w = number_digits form in
      let m : suc n * w ≡ w + n * w = suc-mul n w ∙ add_comm _ _ in
      let p = digits-parts w bs h in
      ap₂ ◌++◌ (written_read (take w bs) (length-take w bs ∙ omega (arith, e, m)) p.0) (all_written-read n (drop w bs) (length-drop w bs ∙ omega (arith, e, m)) p.1)
      ∙ take-append-drop w bs
