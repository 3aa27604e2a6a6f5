-- Drawn bytes, as the code works them out. Assumes nothing.
use Prim.Native.Nat.{ℕ, suc, ◌+◌, ◌-◌, ◌*◌, ◌/◌, ◌%◌, ◌^◌, ◌≤◌, ◌<◌}
use mathlib.Core.Path.{◌≡◌, refl, ap, ◌∙◌}
use mathlib.Core.List.{List, [], ◌∷◌}
use native.Mathlib.Numerals.{add-one}
use native.Mathlib.Nat.{div-mul-le_self, mod-eq_of_lt}
use native.Mathlib.Omega.{arith}
use lib.ListN.{length, get_or, set}
use Rattle.lists.proofs.Tables.{Filled, filled-start, filled_turn, filled_end}
use Rattle.vectors.specs.Draws.{next, byte_of, state, bytes_from, spare_bits, cleared, drawn_block}

-- sum and product may wrap at 64 bits
pub next_is : (x : ℕ) → (x * 1103515245 % 18446744073709551616 + 12345) % 18446744073709551616 % 2147483648 ≡ next x
unfolding next
next_is x = go (x * 1103515245)
  where
    go : (y : ℕ) → (y % 18446744073709551616 + 12345) % 18446744073709551616 % 2147483648 ≡ (y + 12345) % 2147483648
    go y = omega arith

-- no bytes have no spare bits
pub cleared_none : (bits : ℕ) (l : List ℕ) → length l ≡ 0 → l ≡ cleared bits l
unfolding cleared
cleared_none bits [] e = refl
cleared_none bits (a ∷ l) e = absurd (omega arith)

-- a byte shifted down and up again by its spare bits
pub cleared_last : (bits : ℕ) (l : List ℕ) → get_or l (length l - 1) 0 < 256
    → set l (length l - 1) (get_or l (length l - 1) 0 / 2 ^ ((8 - bits % 8) % 8) * 2 ^ ((8 - bits % 8) % 8) % 256) ≡ cleared bits l
unfolding cleared spare_bits
cleared_last bits l h =
    let b = get_or l (length l - 1) 0 in
    let s = (8 - bits % 8) % 8 in
    ap (set l (length l - 1)) (mod-eq_of_lt (omega (arith, div-mul-le_self b (2 ^ s))))

-- The bytes up to i are drawn, and the state is the one after them.
pub record Drawing (x : ℕ) (bytes₀ bytes : List ℕ) (y i : ℕ) : Type 0 where
  pub within : i ≤ length bytes₀
  pub filled : Filled 0 (λ (k : ℕ). byte_of (state x (suc k))) bytes₀ bytes i
  pub reached : y ≡ state x i

module _ (x : ℕ) (bytes₀ : List ℕ) where
  -- at first none is
  pub drawing_start : Drawing x bytes₀ bytes₀ x 0
  unfolding state
  drawing_start = record { within = omega arith; filled = filled-start _ _ _; reached = refl }

  -- one more
  pub drawing_turn : (bytes : List ℕ) (y i z : ℕ) → i < length bytes₀ → z ≡ next y → Drawing x bytes₀ bytes y i
      → Drawing x bytes₀ (set bytes i (z / 65536 % 256)) z (i + 1)
  unfolding state byte_of
  drawing_turn bytes y i z h e w =
      record {
        within = omega arith;
        filled = filled_turn _ _ _ _ _ _ h (ap byte_of (e ∙ ap next w.reached)) w.filled;
        reached = rw add-one (e ∙ ap next w.reached);
      }

  -- all are drawn, and then the spare bits are cleared
  pub drawing_end : (bits : ℕ) (bytes out : List ℕ) (y i : ℕ) → length bytes₀ ≤ i → out ≡ cleared bits bytes → Drawing x bytes₀ bytes y i
      → (y ≡ state x (length bytes₀)) × (out ≡ drawn_block x bits (length bytes₀))
  unfolding drawn_block bytes_from
  drawing_end bits bytes out y i h e w =
      let all : i ≡ length bytes₀ = omega (arith, w.within) in
      (w.reached ∙ ap (state x) all, e ∙ ap (cleared bits) (filled_end _ _ _ _ _ refl (rw all at w.filled)))
