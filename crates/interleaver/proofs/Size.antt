-- s, the smallest power of two not below n. Assumes nothing.
use mathlib.Core.Path.{◌≡◌, refl, sym, ap, ◌∙◌}
use mathlib.Core.Logic.{◌⊎◌, inl, inr}
use Prim.Native.Nat.{ℕ, zero, suc, ◌+◌, ◌-◌, ◌*◌, ◌%◌, ◌^◌, ◌≤◌, ◌<◌}
use native.Mathlib.Nat.{one-mul, mod-eq_of_lt}
use native.Mathlib.Omega.{arith}
use lib.Pow.{pow_pos, pow_mono}
use lib.Count.{count_leading_zeros, leading_length}
use borrow.Author.Tests.{le-leb, lt-leb}
use Rattle.interleaver.specs.Interleaving.{doubled, size}
use Rattle.lists.proofs.Counting.{below_or}

-- s is a power of two, not below n, and the smallest such.
pub record Sized (n s : ℕ) : Type 0 where
  pub digits : ℕ
  pub power : s ≡ 2 ^ digits
  pub enough : n ≤ s
  pub least : s < 2 * n

doubled_stop : (f s n : ℕ) → n ≤ s → doubled (suc f) s n ≡ s
unfolding doubled
doubled_stop f s n h = rw (le-leb n s h, doubled)

doubled_more : (f s n : ℕ) → s < n → doubled (suc f) s n ≡ doubled f (2 * s) n
unfolding doubled
doubled_more f s n h = rw (lt-leb n s h, doubled)

doubled_sized : (f s n k : ℕ) → s ≡ 2 ^ k → s < 2 * n → n ≤ s + f → Sized n (doubled f s n)
unfolding doubled
doubled_sized zero s n k e l h = record { digits = k; power = e; enough = omega arith; least = l }
doubled_sized (suc f) s n k e l h = go (below_or s n) (doubled_sized f (2 * s) n (suc k))
  where
    go : (s < n) ⊎ (n ≤ s) → (2 * s ≡ 2 ^ suc k → 2 * s < 2 * n → n ≤ 2 * s + f → Sized n (doubled f (2 * s) n)) → Sized n (doubled (suc f) s n)
    go (inl d) ih = rw (doubled_more f s n d) (ih (omega arith) (omega arith) (omega (arith, pow_pos k)))
    go (inr d) ih = rw (doubled_stop f s n d) (record { digits = k; power = e; enough = d; least = l })

-- The size for n bits or cells is the smallest power of two not below n.
pub size_sized : (n : ℕ) → 1 ≤ n → Sized n (size n)
unfolding size
size_sized n h = doubled_sized n 1 n 0 refl (omega arith) (omega arith)

smaller : (n s t : ℕ) (a : Sized n s) (b : Sized n t) → a.digits < b.digits → ⊥
smaller n s t a b h = omega (arith, pow_mono h, a.power, b.power)

-- There is one such power of two.
pub sized_one : (n s t : ℕ) → Sized n s → Sized n t → s ≡ t
sized_one n s t a b =
    let same : a.digits ≡ b.digits = omega (arith, smaller n s t a b, smaller n t s b a) in
    a.power ∙ ap (λ (k : ℕ). 2 ^ k) same ∙ sym b.power

-- Leading zeros give s: for n from 1 the width less the leading zeros of n - 1 is its number of digits.
pub leading_sized : (w n : ℕ) → 1 ≤ n → n - 1 < 2 ^ w → Sized n (2 ^ (w - count_leading_zeros w (n - 1)))
leading_sized w n h l =
    let m = leading_length w (n - 1) l in
    let e : w - count_leading_zeros w (n - 1) ≡ m.0 = omega (arith, m.1) in
    rw e (record { digits = m.0; power = refl; enough = omega (arith, m.2); least = omega (arith, m.3) })

-- A one shifted by the width less the leading zeros of n - 1 is the size for n, if twice n fits.
pub leading_size : (w v n : ℕ) → 1 ≤ n → n - 1 < 2 ^ w → 2 * n ≤ 2 ^ v → 1 * 2 ^ (w - count_leading_zeros w (n - 1)) % 2 ^ v ≡ size n
leading_size w v n h l f =
    let z = leading_sized w n h l in
    rw (one-mul, mod-eq_of_lt {n = 2 ^ (w - count_leading_zeros w (n - 1))} {m = 2 ^ v} (omega (arith, z.least)))
    (sized_one n (2 ^ (w - count_leading_zeros w (n - 1))) (size n) z (size_sized n h))
