-- The test for spare bits, bit by bit. Assumes nothing.
use Prim.Native.Nat.{ℕ, suc, ◌+◌, ◌*◌, ◌-◌, ◌≤◌, ◌<◌}
use mathlib.Core.Bool.{true, false}
use mathlib.Core.Path.{◌≡◌, sym}
use mathlib.Core.List.{List}
use native.Mathlib.Nat.{zero-add}
use native.Mathlib.Numerals.{add-one}
use native.Mathlib.Omega.{arith}
use borrow.Author.Tests.{ne_eqb}
use lib.ListN.{length}
use Rattle.lists.specs.Lists.{table, total}
use Rattle.block.specs.Packing.{bit_at, spare_zero}

spare_cons : (bytes : List ℕ) (i : ℕ) → i < 8 * length bytes
    → total (table (bit_at bytes) i (8 * length bytes - i)) ≡ bit_at bytes i + total (table (bit_at bytes) (suc i) (8 * length bytes - suc i))
unfolding table total
spare_cons bytes i h = let e : 8 * length bytes - i ≡ suc (8 * length bytes - suc i) = omega arith in rw e

-- a bit after the first i that is set
pub spare_set : (bytes : List ℕ) (i : ℕ) → i < 8 * length bytes → (bit_at bytes i ≡ 0 → ⊥) → false ≡ spare_zero i bytes
unfolding spare_zero
spare_set bytes i h n = sym (ne_eqb (total (table (bit_at bytes) i (8 * length bytes - i))) 0 (λ e. n (omega (arith, spare_cons bytes i h))))

-- one that is not
pub spare_clear : (bytes : List ℕ) (i : ℕ) → i < 8 * length bytes → bit_at bytes i ≡ 0 → spare_zero (i + 1) bytes ≡ spare_zero i bytes
unfolding spare_zero
spare_clear bytes i h e =
    rw (add-one, spare_cons bytes i h, e, zero-add)

-- no bit is left
pub spare_none : (bytes : List ℕ) (i : ℕ) → 8 * length bytes ≤ i → true ≡ spare_zero i bytes
unfolding spare_zero table total
spare_none bytes i h = let e : 8 * length bytes - i ≡ 0 = omega arith in rw e
