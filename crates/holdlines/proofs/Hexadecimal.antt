-- Digits and the numbers that they stand for give each other back. Assumes nothing.
use Prim.Native.Nat.{ℕ, zero, suc, ◌+◌, ◌-◌, ◌*◌, ◌/◌, ◌%◌, ◌^◌, ◌≤◌, ◌<◌}
use mathlib.Core.Path.{◌≡◌, refl, ap, ap₂, subst, ◌∙◌}
use mathlib.Core.Bool.{Bool, true, false, ◌&&◌}
use mathlib.Core.Logic.{◌⊎◌, inl, inr}
use mathlib.Core.List.{List, [], ◌∷◌, map}
use native.Mathlib.Nat.{one-le-pow, pow-suc, mul_comm, mod-lt, mod-eq_of_lt, div-eq_of_lt, div-add-mod', mul-add-div_right, mul-add-mod_self_right, div-lt_iff_lt-mul, mul-le-mul_right, add-zero}
use native.Mathlib.Omega.{arith}
use borrow.Author.Tests.{lt-ltb, le-ltb, le-leb, lt-leb, leb-true}
use lib.ListN.{length}
use lib.Dec.{leb}
use Rattle.lists.specs.Bools.{every}
use Rattle.lists.proofs.Counting.{below_or}
use Rattle.lists.proofs.Bools.{both, and_left, and_right}
use Rattle.holdlines.specs.Hexadecimal.{digit, is_digit, digit_value, digits, value}

-- One digit.

digit_low : (n : ℕ) → n < 10 → digit n ≡ 48 + n
unfolding digit
digit_low n h = rw (lt-ltb n 10 h)

digit_high : (n : ℕ) → 10 ≤ n → digit n ≡ 55 + n
unfolding digit
digit_high n h = rw (le-ltb n 10 h) (omega arith)

-- a digit stands between 0 and 9 or between A and F
split : (b : ℕ) (x : Bool) → leb 48 b && leb b 57 ≡ x → is_digit b ≡ true → ((48 ≤ b) × (b ≤ 57)) ⊎ ((65 ≤ b) × (b ≤ 70))
unfolding is_digit
split b true e h = inl (leb-true 48 b (and_left (leb 48 b) (leb b 57) e), leb-true b 57 (and_right (leb 48 b) (leb b 57) e))
split b false e h =
    let t : leb 65 b && leb b 70 ≡ true = rw e at h in
    inr (leb-true 65 b (and_left (leb 65 b) (leb b 70) t), leb-true b 70 (and_right (leb 65 b) (leb b 70) t))

pub digit_range : (b : ℕ) → is_digit b ≡ true → ((48 ≤ b) × (b ≤ 57)) ⊎ ((65 ≤ b) × (b ≤ 70))
digit_range b h = split b (leb 48 b && leb b 57) refl h

numeral : (b : ℕ) → 48 ≤ b → b ≤ 57 → (is_digit b ≡ true) × (digit_value b ≡ b - 48)
unfolding is_digit digit_value
numeral b h k = (rw (le-leb 48 b h, le-leb b 57 k), rw (lt-ltb b 65 (omega arith)))

letter : (b : ℕ) → 65 ≤ b → b ≤ 70 → (is_digit b ≡ true) × (digit_value b ≡ b - 55)
unfolding is_digit digit_value
letter b h k = (rw (le-leb 65 b h, le-leb b 70 k, lt-leb b 57 (omega arith), le-leb 48 b (omega arith)), rw (le-ltb b 65 h) (omega arith))

-- a digit of 0 to 15 is one, and stands for that number
pub digit_is : (n : ℕ) → n < 16 → (is_digit (digit n) ≡ true) × (digit_value (digit n) ≡ n)
digit_is n h =
    elim (below_or n 10) [
      | inl l ↦ let d = numeral (48 + n) (omega arith) (omega arith) in rw (digit_low n l) (d.0, d.1 ∙ omega arith)
      | inr l ↦ let d = letter (55 + n) (omega arith) (omega arith) in rw (digit_high n l) (d.0, d.1 ∙ omega arith)
    ]

-- a byte that is a digit stands for a number below 16, and is its digit
pub value_is : (b : ℕ) → is_digit b ≡ true → (digit_value b < 16) × (digit (digit_value b) ≡ b)
value_is b h =
    elim (digit_range b h) [
      | inl l ↦ let e = (numeral b l.0 l.1).1 in (omega (arith, e, l.0, l.1), rw e (digit_low (b - 48) (omega (arith, l.1)) ∙ omega (arith, l.0)))
      | inr l ↦ let e = (letter b l.0 l.1).1 in (omega (arith, e, l.0, l.1), rw e (digit_high (b - 55) (omega (arith, l.0)) ∙ omega (arith, l.0)))
    ]

-- Digits.

-- a power of 16 is above 0
pub power : (w : ℕ) → 0 < 16 ^ w
power w = one-le-pow w 16 (omega arith)

pub length_digits : (w n : ℕ) → length (digits w n) ≡ w
unfolding digits
length_digits zero n = refl
length_digits (suc w) n = ap suc (length_digits w (n % 16 ^ w))

-- the first digit of a number, and what is left of it
first_low : (w n : ℕ) → n < 16 ^ suc w → n / 16 ^ w < 16
first_low w n h = (div-lt_iff_lt-mul {k = 16 ^ w} {x = n} {y = 16} (power w)).1 (subst (λ m. n < m) (pow-suc 16 w ∙ mul_comm (16 ^ w) 16) h)

-- every one of the digits of a number is a digit, and they stand for it
pub digits_are : (w n : ℕ) → n < 16 ^ w → every (map is_digit (digits w n)) ≡ true
unfolding digits every
digits_are zero n h = refl
digits_are (suc w) n h = both (digit_is (n / 16 ^ w) (first_low w n h)).0 (digits_are w (n % 16 ^ w) (mod-lt n (power w)))

pub value-digits : (w n : ℕ) → n < 16 ^ w → value (digits w n) ≡ n
unfolding digits value
value-digits zero n h = omega (arith, h)
value-digits (suc w) n h =
    rw ((digit_is (n / 16 ^ w) (first_low w n h)).1, length_digits w (n % 16 ^ w), value-digits w (n % 16 ^ w) (mod-lt n (power w)))
    (div-add-mod' n (16 ^ w))

-- digits stand for a number below a power of 16, and are its digits
pub value_low : (bs : List ℕ) → every (map is_digit bs) ≡ true → value bs < 16 ^ length bs
unfolding every value
value_low [] h = omega arith
value_low (b ∷ bs) h =
    let v = value_low bs (and_right (is_digit b) (every (map is_digit bs)) h) in
    let d = (value_is b (and_left (is_digit b) (every (map is_digit bs)) h)).0 in
    let m : suc (digit_value b) * 16 ^ length bs ≤ 16 * 16 ^ length bs = mul-le-mul_right (16 ^ length bs) d in
    rw (pow-suc 16 (length bs)) (omega (arith, v, m))

pub digits_value : (bs : List ℕ) → every (map is_digit bs) ≡ true → digits (length bs) (value bs) ≡ bs
unfolding every digits value
digits_value [] h = refl
digits_value (b ∷ bs) h =
    let rest = and_right (is_digit b) (every (map is_digit bs)) h in
    let v = value_low bs rest in
    let P = 16 ^ length bs in
    let q : (digit_value b * P + value bs) / P ≡ digit_value b = mul-add-div_right (power (length bs)) (digit_value b) (value bs) ∙ rw (div-eq_of_lt v) (add-zero (digit_value b)) in
    let r : (digit_value b * P + value bs) % P ≡ value bs = mul-add-mod_self_right (digit_value b) P (value bs) ∙ mod-eq_of_lt v in
    ap₂ ◌∷◌ (ap digit q ∙ (value_is b (and_left (is_digit b) (every (map is_digit bs)) h)).1) (ap (digits (length bs)) r ∙ digits_value bs rest)
