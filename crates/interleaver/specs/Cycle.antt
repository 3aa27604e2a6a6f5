-- The interleaver's cycle. 01 "Buyer's note": to be shown for all sizes s from 8, not size by size.
use Rattle.std.specs.Prelude.{ℕ, zero, suc, ◌+◌, ◌-◌, ◌*◌, ◌/◌, ◌%◌, ◌^◌, ◌≤◌, ◌<◌, ◌≡◌}
use Rattle.interleaver.specs.Interleaving.{place}

-- x ↦ (t × x + q) mod s, j times from 0.
unfoldable pub walk : ℕ → ℕ → ℕ → ℕ → ℕ
walk t q s zero = 0
walk t q s (suc j) = (t * walk t q s j + q) % s

-- One statement about every t that is one more than a multiple of 4 (5, 13 and 21 are).
pub record Cycle : Type 0 where
  -- For every size s = 2^k from 8, with q = s / 4 - 1: every number below s is reached in the first s steps,
  pub reaches : (t k : ℕ) → t % 4 ≡ 1 → 3 ≤ k → (r : ℕ) → r < 2 ^ k → (j : ℕ) × (j < 2 ^ k) × (walk t (2 ^ k / 4 - 1) (2 ^ k) j ≡ r)
  -- and after s steps the walk is at 0 again.
  pub closes : (t k : ℕ) → t % 4 ≡ 1 → 3 ≤ k → walk t (2 ^ k / 4 - 1) (2 ^ k) (2 ^ k) ≡ 0
  -- So for every n from 5, whose s is 8 or more: stepping again ends below n,
  pub ends : (t n : ℕ) → t % 4 ≡ 1 → 5 ≤ n → (i : ℕ) → place t n i < n
  -- every number below n is one of P(0) .. P(n - 1),
  pub covers : (t n : ℕ) → t % 4 ≡ 1 → 5 ≤ n → (r : ℕ) → r < n → (i : ℕ) × (i < n) × (place t n i ≡ r)
  -- and none of these comes twice.
  pub once : (t n : ℕ) → t % 4 ≡ 1 → 5 ≤ n → (i j : ℕ) → i < n → j < n → place t n i ≡ place t n j → i ≡ j
