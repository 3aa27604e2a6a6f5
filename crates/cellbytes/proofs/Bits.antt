-- Signed 16-bit numbers: their four lowest bits, and the number that four bits give. Assumes nothing.
use Prim.Native.Nat.{ℕ, ◌%◌, ◌<◌}
use mathlib.Core.Path.{◌≡◌, refl}
use mathlib.Core.Bool.{true}
use mathlib.Core.Logic.{inl, inr}
use native.Mathlib.Omega.{arith}
use lib.Dec.{T}
use lib.Bits.{bit_and, bit_xor}
use lib.IntN.{ℤ, pos, negsuc, nat_abs, ◌-ℤ◌}
use lib.Signed.{non_neg}
use mir.Syntax.{w16}
use mir.Val.{SFits, to_z, of_z}
use Rattle.lists.specs.Bools.{every}
use Rattle.lists.specs.Lists.{table}
use Rattle.lists.specs.Same.{same_number}
use Rattle.lists.proofs.Bools.{table-every}
use Rattle.lists.proofs.Counting.{below_or}
use Rattle.lists.proofs.Same.{same_number_true, low_digits}
use Rattle.cellbytes.specs.TwosComplement.{modulo, twos_complement}
use Rattle.cellbytes.specs.CellBytes.{signed, four_bits}
use Rattle.cellbytes.proofs.TwosComplement.{lower, upper}

-- the four lowest bits are a number themselves
pub low_value : (n : ℕ) → T (non_neg (to_z w16 (bit_and n 15))) × (nat_abs (to_z w16 (bit_and n 15)) ≡ n % 16)
low_value n = (rw (low_digits n) tt, rw (low_digits n))

-- those of a signed number
pub four_bits_mask : (v : ℤ) → SFits w16 v → of_z w16 v % 16 ≡ four_bits v
unfolding four_bits modulo
four_bits_mask (pos n) f = refl
four_bits_mask (negsuc n) f = let h : n < 32768 = f.sfits in omega arith

-- two functions agree below n, by one test that is computed over all its numbers
pub same_below : (f g : ℕ → ℤ) (n : ℕ) → every (table (λ k. same_number (f k) (g k)) 0 n) ≡ true → (k : ℕ) → k < n → f k ≡ g k
same_below f g n t k h = same_number_true (f k) (g k) (table-every (λ k. same_number (f k) (g k)) n t k h)

-- four bits with the highest turned over, less 8, are their number
pub turned-signed : (n : ℕ) → n < 16 → to_z w16 (bit_xor n 8) -ℤ pos 8 ≡ signed n
unfolding signed twos_complement same_number every table
turned-signed = same_below (λ n. to_z w16 (bit_xor n 8) -ℤ pos 8) signed 16 refl

-- which fits
pub signed-fits : (n : ℕ) → n < 16 → SFits w16 (signed n)
unfolding signed
signed-fits n h = elim (below_or n 8) [
  | inl l ↦ rw (lower 16 n l) (record { sfits = omega arith })
  | inr l ↦ rw (upper 16 n l) (record { sfits = omega arith })
]
