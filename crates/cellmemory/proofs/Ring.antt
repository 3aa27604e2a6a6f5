-- Slots stand in a ring: from cell to cell the delay goes up by one and starts anew, and the slot goes down by one and starts anew. Assumes nothing.
use mathlib.Core.Path.{◌≡◌, ◌∙◌}
use mathlib.Core.Logic.{◌⊎◌, inl, inr}
use Prim.Native.Nat.{ℕ, zero, suc, ◌+◌, ◌-◌, ◌*◌, ◌/◌, ◌%◌, ◌≤◌, ◌<◌}
use native.Mathlib.Nat.{mod-lt, mod-eq_of_lt, add-mod_right, mod_self, mul-le-mul_right, add-zero, zero-mul, suc-mul}
use native.Mathlib.Omega.{arith}
use borrow.Author.Tests.{lt-ltb, le-ltb}
use Rattle.lists.proofs.Counting.{below_or}
use Rattle.superframe.specs.Interleaving.{slot_before, delay, sent_place}
use Rattle.interleaver.specs.Interleaving.{place}
use Rattle.cellmemory.specs.Clauses.{previous}

-- The slot d before position p, without a remainder.
pub slot_near : (D p d : ℕ) → d ≤ p → p < D → slot_before D p d ≡ p - d
unfolding slot_before
slot_near D p d h l =
    let e : p + D - d ≡ p - d + D = omega arith in
    let g : p - d < D = omega arith in
    rw (e, add-mod_right) (mod-eq_of_lt g)

pub slot_far : (D p d : ℕ) → p < d → d ≤ D → slot_before D p d ≡ p + D - d
unfolding slot_before
slot_far D p d h l = mod-eq_of_lt (omega arith)

pub slot_zero : (D p : ℕ) → p < D → slot_before D p 0 ≡ p
slot_zero D p l = slot_near D p 0 (omega arith) l ∙ omega arith

pub slot_below : (D p d : ℕ) → 0 < D → slot_before D p d < D
unfolding slot_before
slot_below D p d h = mod-lt (p + D - d) h

-- The slot before slot x, by where it begins.
pub previous-zero : (n last x : ℕ) → 0 < n → x ≡ 0 → previous n last (x * n) ≡ last
unfolding previous
previous-zero n last x h e = rw (e, zero-mul, lt-ltb 0 n h)

pub previous_more : (n last x : ℕ) → 1 ≤ x → previous n last (x * n) ≡ (x - 1) * n
unfolding previous
previous_more n last zero h = elim h [ ]
previous_more n last (suc x) h =
    let e : suc x * n ≡ x * n + n = suc-mul x n in
    let f : suc x - 1 ≡ x = omega arith in
    rw (le-ltb (suc x * n) n (omega arith), f) (omega arith)

-- The slot of the next cell.
pub previous_later : (D n p d : ℕ) → 0 < n → p < D → d < D → previous n ((D - 1) * n) (slot_before D p d * n) ≡ slot_before D p ((d + 1) % D) * n
previous_later D n p d z hp hd = go (below_or (d + 1) D) (below_or d (p + 1))
  where
    last_is : d + 1 ≡ D → (d + 1) % D ≡ 0
    last_is e = rw e (mod_self D)

    first : (x y : ℕ) → x ≡ 0 → D - 1 ≡ y → previous n ((D - 1) * n) (x * n) ≡ y * n
    first x y e f = previous-zero n ((D - 1) * n) x z e ∙ rw f

    other : (x y : ℕ) → 1 ≤ x → x - 1 ≡ y → previous n ((D - 1) * n) (x * n) ≡ y * n
    other x y h f = previous_more n ((D - 1) * n) x h ∙ rw f

    go : (d + 1 < D) ⊎ (D ≤ d + 1) → (d < p + 1) ⊎ (p + 1 ≤ d) → previous n ((D - 1) * n) (slot_before D p d * n) ≡ slot_before D p ((d + 1) % D) * n
    go (inl a) (inl b) = near (below_or d p)
      where
        near : (d < p) ⊎ (p ≤ d) → previous n ((D - 1) * n) (slot_before D p d * n) ≡ slot_before D p ((d + 1) % D) * n
        near (inl g) =
            rw (slot_near D p d (omega arith) hp, mod-eq_of_lt a, slot_near D p (d + 1) (omega arith) hp)
            (other (p - d) (p - (d + 1)) (omega arith) (omega arith))
        near (inr g) =
            rw (slot_near D p d (omega arith) hp, mod-eq_of_lt a, slot_far D p (d + 1) (omega arith) (omega arith))
            (first (p - d) (p + D - (d + 1)) (omega arith) (omega arith))
    go (inl a) (inr b) =
        rw (slot_far D p d (omega arith) (omega arith), mod-eq_of_lt a, slot_far D p (d + 1) (omega arith) (omega arith))
        (other (p + D - d) (p + D - (d + 1)) (omega arith) (omega arith))
    go (inr a) (inl b) =
        rw (slot_near D p d (omega arith) hp, last_is (omega arith), slot_near D p 0 (omega arith) hp)
        (first (p - d) (p - 0) (omega arith) (omega arith))
    go (inr a) (inr b) =
        rw (slot_far D p d (omega arith) (omega arith), last_is (omega arith), slot_near D p 0 (omega arith) hp)
        (other (p + D - d) (p - 0) (omega arith) (omega arith))

-- A slot stands within memory.
pub slot_within : (D n slot len : ℕ) → slot < D → len ≡ D * n → slot * n + n ≤ len
slot_within D n slot len h e =
    let g : suc slot * n ≤ D * n = mul-le-mul_right n h in
    omega (arith, suc-mul slot n)

-- Numbers 2i and 2i + 1 of a row belong to cell i.
pub delay_even : (D i : ℕ) → delay D (2 * i) ≡ i % D
unfolding delay
delay_even D i = let e : 2 * i / 2 ≡ i = omega arith in rw e

pub delay_odd : (D i : ℕ) → delay D (2 * i + 1) ≡ i % D
unfolding delay
delay_odd D i = let e : (2 * i + 1) / 2 ≡ i = omega arith in rw e

pub place_even : (n i : ℕ) → sent_place n (2 * i) ≡ 2 * place 5 n i
unfolding sent_place
place_even n i =
    let e : 2 * i / 2 ≡ i = omega arith in
    let g : 2 * i % 2 ≡ 0 = omega arith in
    rw (e, g, add-zero)

pub place_odd : (n i : ℕ) → sent_place n (2 * i + 1) ≡ 2 * place 5 n i + 1
unfolding sent_place
place_odd n i =
    let e : (2 * i + 1) / 2 ≡ i = omega arith in
    let g : (2 * i + 1) % 2 ≡ 1 = omega arith in
    rw (e, g)
