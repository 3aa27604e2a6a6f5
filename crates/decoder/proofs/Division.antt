-- Decoding many bits at a time: b0 times the mask and its square, divided by its fourth power, gives the bits that b0 gives bit by bit. Assumes nothing.
use Prim.Native.Nat.{ℕ, zero, suc, ◌+◌, ◌-◌, ◌*◌, ◌/◌, ◌%◌, ◌≤◌, ◌<◌}
use mathlib.Core.Path.{◌≡◌, refl, sym, ap, ◌∙◌}
use mathlib.Core.Logic.{inl, inr}
use mathlib.Core.List.{List, ◌∷◌}
use native.Mathlib.Nat.{add-mul, mul_assoc}
use native.Mathlib.Omega.{arith}
use lib.ListN.{length, get_or, take, drop, get_or-eq_default}
use lib.Seq.{ext_get_or, get_or-drop}
use lib.Count.{ones, ones_in}
use Rattle.lists.proofs.Counting.{below_or}
use Rattle.lists.proofs.Rules.{equal}
use Rattle.component.specs.Bits.{Bits}
use Rattle.component.specs.Register.{next, parity, after}
use Rattle.component.specs.Codeword.{following}
use Rattle.component.specs.Decoding.{coded_length, newest, decode}
use Rattle.component.specs.Coding.{register_at}
use Rattle.decoder.specs.Division.{product, Multiplied, Divided}
use Rattle.component.proofs.Bits.{bits-take}
use Rattle.component.proofs.Register.{after_low, parity-next}
use Rattle.component.proofs.Decoding.{length-decode, decode-bits}
use Rattle.component.proofs.SevenBits.{after_more, after-start}

-- an even number adds nothing modulo 2
even : (r q : ℕ) → (r + 2 * q) % 2 ≡ r % 2
even r q = omega arith

-- numbers added up modulo 2 are their lowest digits added up
added : (a b c d e : ℕ) → (a % 2 + b % 2 + c % 2 + d % 2 + e % 2) % 2 ≡ (a + b + c + d + e) % 2
added a b c d e =
    let s : a % 2 + b % 2 + c % 2 + d % 2 + e % 2 + 2 * (a / 2 + b / 2 + c / 2 + d / 2 + e / 2) ≡ a + b + c + d + e = omega arith in
    sym (even (a % 2 + b % 2 + c % 2 + d % 2 + e % 2) (a / 2 + b / 2 + c / 2 + d / 2 + e / 2)) ∙ ap (λ x. x % 2) s

-- five sums of five bits each, modulo 2: what is in two of them goes out
square : (y₀ y₂ y₃ y₄ y₅ y₆ y₇ y₈ y₉ y₁₀ y₁₁ y₁₂ : ℕ)
    → ((y₀ + y₂ + y₃ + y₅ + y₆) % 2 + (y₂ + y₄ + y₅ + y₇ + y₈) % 2 + (y₃ + y₅ + y₆ + y₈ + y₉) % 2 + (y₅ + y₇ + y₈ + y₁₀ + y₁₁) % 2
    + (y₆ + y₈ + y₉ + y₁₁ + y₁₂) % 2)
    % 2
    ≡ (y₀ + y₄ + y₆ + y₁₀ + y₁₂) % 2
square y₀ y₂ y₃ y₄ y₅ y₆ y₇ y₈ y₉ y₁₀ y₁₁ y₁₂ =
    let e : y₀ + y₂ + y₃ + y₅ + y₆ + (y₂ + y₄ + y₅ + y₇ + y₈) + (y₃ + y₅ + y₆ + y₈ + y₉) + (y₅ + y₇ + y₈ + y₁₀ + y₁₁) + (y₆ + y₈ + y₉ + y₁₁ + y₁₂)
    ≡ y₀ + y₄ + y₆ + y₁₀ + y₁₂ + 2 * (y₂ + y₃ + y₅ + y₅ + y₆ + y₇ + y₈ + y₈ + y₉ + y₁₁) =
    omega arith in
    added (y₀ + y₂ + y₃ + y₅ + y₆) (y₂ + y₄ + y₅ + y₇ + y₈) (y₃ + y₅ + y₆ + y₈ + y₉) (y₅ + y₇ + y₈ + y₁₀ + y₁₁) (y₆ + y₈ + y₉ + y₁₁ + y₁₂)
    ∙ ap (λ x. x % 2) e
    ∙ even (y₀ + y₄ + y₆ + y₁₀ + y₁₂) (y₂ + y₃ + y₅ + y₅ + y₆ + y₇ + y₈ + y₈ + y₉ + y₁₁)

-- the parity under mask 133 octal by the digits of a register
digits : (k : ℕ) → k < 128 → parity 0o133 k ≡ (k / 2 / 2 / 2 / 2 / 2 / 2 % 2 + k / 2 / 2 / 2 / 2 % 2 + k / 2 / 2 / 2 % 2 + k / 2 % 2 + k % 2) % 2
unfolding parity ones ones_in
digits = equal (parity 0o133) (λ k. (k / 2 / 2 / 2 / 2 / 2 / 2 % 2 + k / 2 / 2 / 2 / 2 % 2 + k / 2 / 2 / 2 % 2 + k / 2 % 2 + k % 2) % 2) 128 tt

-- a number by its lowest digit and the others
lowest : (x y : ℕ) → x < 2 → (x + 2 * y) % 2 ≡ x
lowest x y h = omega arith

others : (x y : ℕ) → x < 2 → (x + 2 * y) / 2 ≡ y
others x y h = omega arith

seven_digits : (x₀ x₁ x₂ x₃ x₄ x₅ x₆ : ℕ) → x₀ < 2 → x₁ < 2 → x₂ < 2 → x₃ < 2 → x₄ < 2 → x₅ < 2 → x₆ < 2
    → parity 0o133 (x₀ + 2 * (x₁ + 2 * (x₂ + 2 * (x₃ + 2 * (x₄ + 2 * (x₅ + 2 * x₆)))))) ≡ (x₆ + x₄ + x₃ + x₁ + x₀) % 2
seven_digits x₀ x₁ x₂ x₃ x₄ x₅ x₆ h₀ h₁ h₂ h₃ h₄ h₅ h₆ =
    let r₅ : ℕ = x₅ + 2 * x₆ in
    let r₄ : ℕ = x₄ + 2 * r₅ in
    let r₃ : ℕ = x₃ + 2 * r₄ in
    let r₂ : ℕ = x₂ + 2 * r₃ in
    let r₁ : ℕ = x₁ + 2 * r₂ in
    let m : x₆ % 2 ≡ x₆ = omega arith in
    digits (x₀ + 2 * r₁) (omega arith)
    ∙ rw (
      others x₀ r₁ h₀,
      others x₁ r₂ h₁,
      others x₂ r₃ h₂,
      others x₃ r₄ h₃,
      others x₄ r₅ h₄,
      others x₅ x₆ h₅,
      lowest x₀ r₁ h₀,
      lowest x₁ r₂ h₁,
      lowest x₃ r₄ h₃,
      lowest x₄ r₅ h₄,
      m,
    )

-- so the parity of seven bits in a row is a product of the mask
pub parity-product : {l : List ℕ} → Bits l → (k : ℕ) → parity 0o133 (register_at l k) ≡ product 1 l (k + 6)
unfolding register_at product
parity-product {l} B k =
    let e₄ : k + 6 - 2 * 1 ≡ k + 4 = omega arith in
    let e₃ : k + 6 - 3 * 1 ≡ k + 3 = omega arith in
    let e₁ : k + 6 - 5 * 1 ≡ k + 1 = omega arith in
    let e₀ : k + 6 - 6 * 1 ≡ k = omega arith in
    rw (e₄, e₃, e₁, e₀)
    (seven_digits _ _ _ _ _ _ _ (B.bit k) (B.bit (k + 1)) (B.bit (k + 2)) (B.bit (k + 3)) (B.bit (k + 4)) (B.bit (k + 5)) (B.bit (k + 6)))

-- a product is a bit
pub product_bit : (s : ℕ) (l : List ℕ) (j : ℕ) → product s l j < 2
unfolding product
product_bit s l j = omega arith

-- some steps back, and some more
back : (j s i k : ℕ) → j - i * s - k * s ≡ j - (i + k) * s
back j s i k = rw (add-mul i k s) (omega arith)

-- steps twice as far
twice : (j s k : ℕ) → j - k * (2 * s) ≡ j - (k * 2) * s
twice j s k = ap (λ x. j - x) (sym (mul_assoc k 2 s))

-- products added up as a product is: the mask times itself has its digits twice as far apart
squared : (s : ℕ) (b : List ℕ) (j : ℕ)
    → (product s b j + product s b (j - 2 * s) + product s b (j - 3 * s) + product s b (j - 5 * s) + product s b (j - 6 * s)) % 2 ≡ product (2 * s) b j
unfolding product
squared s b j =
    let f : ℕ → ℕ = λ a. get_or b (j - a * s) 0 in
    rw (
      twice j s 2,
      twice j s 3,
      twice j s 5,
      twice j s 6,
      back j s 2 2,
      back j s 2 3,
      back j s 2 5,
      back j s 2 6,
      back j s 3 2,
      back j s 3 3,
      back j s 3 5,
      back j s 3 6,
      back j s 5 2,
      back j s 5 3,
      back j s 5 5,
      back j s 5 6,
      back j s 6 2,
      back j s 6 3,
      back j s 6 5,
      back j s 6 6,
    )
    (square (get_or b j 0) (f 2) (f 3) (f 4) (f 5) (f 6) (f 7) (f 8) (f 9) (f 10) (f 11) (f 12))

-- x is b times the mask with its digits a step apart, where these reach
pub record Power (s : ℕ) (b x : List ℕ) : Type 0 where
  pub same : length x ≡ length b
  pub each : (j : ℕ) → 6 * s ≤ j → j < length b → get_or x j 0 ≡ product s b j

opened : (s : ℕ) (l : List ℕ) (j : ℕ)
    → product s l j ≡ (get_or l j 0 + get_or l (j - 2 * s) 0 + get_or l (j - 3 * s) 0 + get_or l (j - 5 * s) 0 + get_or l (j - 6 * s) 0) % 2
unfolding product
opened s l j = refl

-- times the mask once more, its digits stand twice as far apart
pub power_more : {s : ℕ} {b x y : List ℕ} → Power s b x → Multiplied s x y → Power (2 * s) b y
power_more {s} {b} {x} {y} P M =
    record {
      same = M.same ∙ P.same;
      each = λ j h k.
          M.from j (omega arith) (omega (arith, P.same))
          ∙ opened s x j
          ∙ rw (
            P.each j (omega arith) k,
            P.each (j - 2 * s) (omega arith) (omega arith),
            P.each (j - 3 * s) (omega arith) (omega arith),
            P.each (j - 5 * s) (omega arith) (omega arith),
            P.each (j - 6 * s) (omega arith) (omega arith),
          )
          (squared s b j);
    }

-- what is multiplied are bits
pub multiplied_bits : {s : ℕ} {x y : List ℕ} → Bits x → Multiplied s x y → Bits y
multiplied_bits {s} {x} {y} B M =
    record {
      bit = λ j. elim (below_or j (12 * s)) [
        | inl h ↦ rw (M.before j h) (B.bit j)
        | inr h ↦ elim (below_or j (length x)) [
          | inl k ↦ rw (M.from j h k) (product_bit s x j)
          | inr k ↦ rw (get_or-eq_default y 0 {n = j} (rw M.same k)) (omega arith)
        ]
      ];
    }

-- dividing gives the bits back, the first of which are given
module _ {b e f g : List ℕ} (B : Bits b) (P : Power 4 b e) (first : (j : ℕ) → j < 24 → get_or f j 0 ≡ get_or b j 0) (rest : (j : ℕ) → 24 ≤ j → get_or f j 0 ≡ get_or e j 0) (long : length f ≡ length b) (D : Divided f g) where
  unmade : (x₀ x₁ x₂ x₃ x₄ : ℕ) → x₀ < 2 → ((x₀ + x₁ + x₂ + x₃ + x₄) % 2 + x₁ + x₂ + x₃ + x₄) % 2 ≡ x₀
  unmade x₀ x₁ x₂ x₃ x₄ h = omega arith

  divided_from : (m j : ℕ) → j < m → j < length b → get_or g j 0 ≡ get_or b j 0
  divided_from zero j h k = absurd (omega arith)
  divided_from (suc m) j h k = elim (below_or j 24) [
    | inl l ↦ D.before j l ∙ first j l
    | inr l ↦
        D.from j l (omega (arith, long))
        ∙ rw (
          rest j l,
          P.each j l k,
          opened 4 b j,
          divided_from m (j - 8) (omega arith) (omega arith),
          divided_from m (j - 12) (omega arith) (omega arith),
          divided_from m (j - 20) (omega arith) (omega arith),
          divided_from m (j - 24) (omega arith) (omega arith),
        )
        (unmade (get_or b j 0) (get_or b (j - 8) 0) (get_or b (j - 12) 0) (get_or b (j - 20) 0) (get_or b (j - 24) 0) (B.bit j))
  ]

  pub divided : g ≡ b
  divided = ext_get_or 0 g b (D.same ∙ long) (λ j h. divided_from (suc j) j (omega arith) (omega (arith, D.same, long)))

-- each decoded bit is the newest after those before it
newest_at : (p : List ℕ) (r i n : ℕ) (coded : List ℕ) (j : ℕ) → j < n
    → get_or (decode p r i n coded) j 0 ≡ newest (after r (take j (decode p r i n coded))) (get_or coded (coded_length p i j) 0)
unfolding decode after coded_length
newest_at p r i zero coded j h = absurd (omega arith)
newest_at p r i (suc n) coded zero h = refl
newest_at p r i (suc n) coded (suc j) h =
    newest_at p (next r (newest r (get_or coded 0 0))) (following p i) n (drop (ones (get_or p i 0)) coded) j (omega arith)
    ∙ rw get_or-drop

-- the first of the decoded bits
pub take-decode : (p : List ℕ) (r i m n : ℕ) (coded : List ℕ) → m ≤ n → take m (decode p r i n coded) ≡ decode p r i m coded
unfolding decode
take-decode p r i zero n coded h = refl
take-decode p r i (suc m) zero coded h = absurd (omega arith)
take-decode p r i (suc m) (suc n) coded h =
    ap (λ l. newest r (get_or coded 0 0) ∷ l)
    (take-decode p (next r (newest r (get_or coded 0 0))) (following p i) m n (drop (ones (get_or p i 0)) coded) (omega arith))

-- b0 comes back from the newest bit
parity-newest : (r b c : ℕ) → r < 128 → b ≡ newest r c → parity 0o133 (next r b) ≡ c % 2
unfolding newest
parity-newest r b c h e = omega (arith, parity-next r b h (omega arith))

-- so b0 is the decoded bits times the mask
pub first-product : (p : List ℕ) (r n : ℕ) (coded : List ℕ) (k : ℕ) → r < 128 → k + 6 < n
    → get_or coded (coded_length p 0 (k + 6)) 0 % 2 ≡ product 1 (decode p r 0 n coded) (k + 6)
first-product p r n coded k h l =
    let b : List ℕ = decode p r 0 n coded in
    let B : Bits b = decode-bits p r 0 n coded in
    let m : length b ≡ n = length-decode p r 0 n coded in
    let e : suc (k + 6) ≡ k + 7 = omega arith in
    let a : next (after r (take (k + 6) b)) (get_or b (k + 6) 0) ≡ register_at b k =
    sym (after_more r b (k + 6) (omega arith)) ∙ ap (λ x. after r (take x b)) e ∙ after-start B r k h (omega arith) in
    sym (parity-newest (after r (take (k + 6) b)) (get_or b (k + 6) 0) (get_or coded (coded_length p 0 (k + 6)) 0) (after_low h (bits-take (k + 6) B)) (newest_at p r 0 n coded (k + 6) l))
    ∙ ap (parity 0o133) a
    ∙ parity-product B k
