-- A byte put together from its bits, highest first. Assumes nothing.
use Prim.Native.Nat.{ℕ, zero, suc, ◌+◌, ◌*◌, ◌^◌, ◌≤◌, ◌<◌}
use mathlib.Core.Path.{◌≡◌, refl}
use mathlib.Core.List.{List}
use native.Mathlib.Nat.{add-zero, zero-add}
use native.Mathlib.Numerals.{add-one}
use native.Mathlib.Omega.{arith}
use lib.ListN.{get_or}
use lib.Pow.{pow_mono}
use Rattle.component.specs.Bits.{Bits}
use Rattle.block.specs.Packing.{digits}

-- n binary digits make a number below 2 ^ n
pub digits_low : {bits : List ℕ} → Bits bits → (i n : ℕ) → digits bits i n < 2 ^ n
unfolding digits
digits_low B i zero = omega arith
digits_low B i (suc n) = omega (arith, digits_low B i n, B.bit (i + n))

-- before the turn at digit j
pub record Byte (bits : List ℕ) (at byte j : ℕ) : Type 0 where
  pub turns : j ≤ 8
  pub small : byte < 256
  pub known : byte ≡ digits bits at j

pub byte_start : (bits : List ℕ) (at : ℕ) → Byte bits at 0 0
unfolding digits
byte_start bits at = record { turns = omega arith; small = omega arith; known = refl }

pub byte_turn : {bits : List ℕ} {at byte j b : ℕ} → Bits bits → Byte bits at byte j → j < 8 → b ≡ get_or bits (at + j) 0
    → Byte bits at (byte * 2 + b) (j + 1)
unfolding digits
byte_turn {bits} {at} {byte} {j} {b} B I h e =
    let k : byte * 2 + b ≡ digits bits at (suc j) = rw (I.known, e) in
    let m : 2 ^ suc j ≤ 256 = pow_mono {i = suc j} {j = 8} h in
    record { turns = omega arith; small = omega (arith, digits_low B at (suc j)); known = rw add-one k }

pub byte_done : {bits : List ℕ} {at byte j : ℕ} → Byte bits at byte j → 8 ≤ j → byte ≡ digits bits at 8
byte_done {bits} {at} {byte} {j} I h = let e : j ≡ 8 = omega (arith, I.turns) in rw e at I.known

-- eight digits written out
pub eight_digits : (bits : List ℕ) (i r : ℕ)
    → r ≡ ((((((get_or bits i 0 * 2 + get_or bits (i + 1) 0) * 2 + get_or bits (i + 2) 0) * 2 + get_or bits (i + 3) 0) * 2 + get_or bits (i + 4) 0) * 2
    + get_or bits (i + 5) 0) * 2 + get_or bits (i + 6) 0) * 2 + get_or bits (i + 7) 0
    → r ≡ digits bits i 8
unfolding digits
eight_digits bits i r e = rw (add-zero, zero-add) e
