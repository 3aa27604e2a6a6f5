-- Signed 16-bit numbers by their bits. Assumes nothing.
use Prim.Native.Nat.{ℕ, ◌%◌, ◌<◌}
use mathlib.Core.Path.{◌≡◌, sym}
use native.Mathlib.Omega.{arith}
use lib.Dec.{T}
use lib.Bits.{bit_and, and_le_r, and_mask}
use lib.IntN.{nat_abs}
use lib.Signed.{non_neg}
use mir.Syntax.{w16}
use mir.Val.{to_z}
use Rattle.lists.proofs.Same.{low_digits}

-- the four lowest binary digits of a number
pub digits_low : (n : ℕ) → bit_and n 15 < 16
digits_low n = omega (arith, and_le_r n 15)

-- they are their own value as a signed number, and below 16
pub digits_value : (n : ℕ) → T (non_neg (to_z w16 (bit_and n 15))) × (nat_abs (to_z w16 (bit_and n 15)) ≡ bit_and n 15) × (bit_and n 15 < 16)
digits_value n =
    let m : bit_and n 15 ≡ n % 16 = and_mask n 4 in
    (rw (low_digits n) tt, rw (low_digits n) (sym m), digits_low n)
