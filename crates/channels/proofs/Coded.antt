-- The coded bits of a level by its rate: part A has w N1 bits, part B with its tail w N2. Assumes nothing.
use Prim.Native.Nat.{ℕ, ◌+◌, ◌-◌, ◌*◌, ◌/◌, ◌%◌, ◌≤◌, ◌<◌}
use mathlib.Core.Path.{◌≡◌, sym, ap, ◌∙◌}
use mathlib.Core.Logic.{◌⊎◌, inl, inr}
use native.Mathlib.Nat.{mul_comm, mul_left_comm, mod-lt, div-add-mod'}
use native.Mathlib.Omega.{arith}
use mathlib.Core.List.{List}
use Rattle.patterns.specs.Patterns.{RY, pattern, tail_pattern, Sound}
use Rattle.patterns.specs.Loaded.{Allowed}
use Rattle.component.specs.Decoding.{coded_length}
use Rattle.patterns.proofs.Patterns.{tail_sound}
use Rattle.component.proofs.Lengths.{RY_low, rate_length, level_length}
use Rattle.partlengths.specs.Formulas.{bits_a, bits_b, remainder}
use Rattle.partlengths.proofs.PartA.{bits_a_exact}
use Rattle.block.specs.Fits.{Mixes, plain, empty, cycle}

-- part A: whole rounds of its pattern
pub size_a_is : {kept : List ℕ} → Allowed kept → (w n rate : ℕ) → rate < 13 → n % RY rate ≡ 0 → coded_length (pattern kept rate) 0 (bits_a w n rate) ≡ w * n
size_a_is A w n rate h e =
    let q = n / RY rate in
    let whole : n ≡ q * RY rate = omega (arith, div-add-mod' n (RY rate)) in
    rw (bits_a_exact w n rate q whole, rate_length A rate (w * q) h) (mul_left_comm (RY rate) w q ∙ ap (λ m. w * m) (mul_comm (RY rate) q ∙ sym whole))

-- part B and its tail
pub size_b_is : {kept : List ℕ} → Allowed kept → (w n rate : ℕ) → rate < 13 → 12 ≤ w * n
    → coded_length (pattern kept rate) 0 (bits_b w n rate) + coded_length (tail_pattern (remainder w n rate)) 0 6 ≡ w * n
unfolding bits_b remainder
size_b_is A w n rate h l = level_length A rate (w * n - 12) h ∙ omega arith

-- the tail's pattern stands in table 66
pub tail-fits : (w n rate : ℕ) → rate < 13 → Sound (tail_pattern (remainder w n rate))
unfolding remainder
tail-fits w n rate h =
    tail_sound ((w * n - 12) % RY rate) (omega (arith, mod-lt (w * n - 12) (RY_low rate h).0, (RY_low rate h).1))

-- t is 0, or one more than a multiple of 4, and small
pub record Step (t : ℕ) : Type 0 where
  pub step : (t ≡ 0) ⊎ (t % 4 ≡ 1)
  pub small : t < 64

-- so many bits can be interleaved and put back if there are none or at least 5
pub mixes : {t n : ℕ} → Step t → (n ≡ 0) ⊎ (5 ≤ n) → Mixes t n
mixes {t} {n} S h = go S.step h
  where
    go : (t ≡ 0) ⊎ (t % 4 ≡ 1) → (n ≡ 0) ⊎ (5 ≤ n) → Mixes t n
    go (inl e) h = plain e
    go (inr e) (inl f) = empty f
    go (inr e) (inr f) = cycle (record { low = f; factor = e })
