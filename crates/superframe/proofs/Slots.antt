-- The slot written so many frames before a position, and the position after it. Assumes nothing.
use Prim.Native.Nat.{ℕ, suc, ◌+◌, ◌-◌, ◌%◌, ◌≤◌, ◌<◌}
use mathlib.Core.Path.{◌≡◌, sym, ◌∙◌}
use mathlib.Core.Logic.{◌⊎◌, inl, inr}
use native.Mathlib.Nat.{mod-lt, mod-eq_of_lt, add-mod_right, mod_self}
use native.Mathlib.Omega.{arith}
use Rattle.lists.proofs.Counting.{below_or}
use Rattle.superframe.specs.Interleaving.{slot_before}

module _ (D p : ℕ) (low : p < D) where
  -- Before slot 0 comes the last one.
  near : (d : ℕ) → d ≤ p → slot_before D p d ≡ p - d
  unfolding slot_before
  near d h =
      let e : p + D - d ≡ (p - d) + D = omega arith in
      rw (e, add-mod_right) (mod-eq_of_lt (omega arith))

  far : (d : ℕ) → p < d → d ≤ D → slot_before D p d ≡ p + D - d
  unfolding slot_before
  far d h k = mod-eq_of_lt (omega arith)

  -- The next position.
  next_up : suc p < D → (p + 1) % D ≡ suc p
  next_up h = let e : p + 1 ≡ suc p = omega arith in rw e (mod-eq_of_lt h)

  next_round : suc p ≡ D → (p + 1) % D ≡ 0
  next_round h = let e : p + 1 ≡ D = omega arith in rw e (mod_self D)

  pub next_low : (p + 1) % D < D
  next_low = mod-lt (p + 1) (omega arith)

  -- Every slot is one of D.
  pub slot_low : (d : ℕ) → slot_before D p d < D
  unfolding slot_before
  slot_low d = mod-lt (p + D - d) (omega arith)

  -- No frame before a position, and D frames before it, is the position itself.
  pub slot_zero : slot_before D p 0 ≡ p
  slot_zero = near 0 (omega arith) ∙ omega arith

  pub slot_last : slot_before D p D ≡ p
  slot_last = far D low (omega arith) ∙ omega arith

  -- Frames fewer than D before a position stand in different slots.
  pub slot_once : (d e : ℕ) → d < D → e < D → slot_before D p d ≡ slot_before D p e → d ≡ e
  slot_once d e a b h = go (below_or p d) (below_or p e)
    where
      go : (p < d) ⊎ (d ≤ p) → (p < e) ⊎ (e ≤ p) → d ≡ e
      go (inl x) (inl y) = omega (arith, far d x (omega arith), far e y (omega arith))
      go (inl x) (inr y) = omega (arith, far d x (omega arith), near e y)
      go (inr x) (inl y) = omega (arith, near d x, far e y (omega arith))
      go (inr x) (inr y) = omega (arith, near d x, near e y)

  -- Every slot was written at most D frames before.
  pub slot_cover : (slot : ℕ) → slot < D → (d : ℕ) × (d < D) × (slot_before D p (suc d) ≡ slot)
  slot_cover slot h =
      elim (below_or slot p) [
        | inl x ↦ (p - suc slot, omega arith, near (suc (p - suc slot)) (omega arith) ∙ omega arith)
        | inr x ↦ (p + D - suc slot, omega arith, far (suc (p + D - suc slot)) (omega arith) (omega arith) ∙ omega arith)
      ]

-- One frame more before the next position is the same slot.
pub slot_next : (D p : ℕ) → p < D → (d : ℕ) → d < D → slot_before D ((p + 1) % D) (suc d) ≡ slot_before D p d
slot_next D p low d h = go (below_or (suc p) D) (below_or p d)
  where
    go : (suc p < D) ⊎ (D ≤ suc p) → (p < d) ⊎ (d ≤ p) → slot_before D ((p + 1) % D) (suc d) ≡ slot_before D p d
    go (inl x) (inl y) = rw (next_up D p low x) (far D (suc p) x (suc d) (omega arith) (omega arith) ∙ (omega arith) ∙ sym (far D p low d y (omega arith)))
    go (inl x) (inr y) = rw (next_up D p low x) (near D (suc p) x (suc d) (omega arith) ∙ (omega arith) ∙ sym (near D p low d y))
    go (inr x) (inl y) = absurd (omega arith)
    go (inr x) (inr y) =
        rw (next_round D p low (omega arith))
        (far D 0 (omega arith) (suc d) (omega arith) (omega arith) ∙ (omega arith) ∙ sym (near D p low d y))
