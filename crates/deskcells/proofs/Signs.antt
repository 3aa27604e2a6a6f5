-- Signed 16-bit numbers and the numbers that stand for them.
use Prim.Native.Nat.{ℕ, ◌-◌, ◌<◌, ◌≤◌}
use mathlib.Core.Path.{◌≡◌, refl, sym, ap, ◌∙◌}
use mathlib.Core.Logic.{◌⊎◌, inl, inr}
use native.Mathlib.Omega.{arith}
use lib.IntN.{ℤ, pos, negsuc}
use borrow.Author.Tests.{lt-ltb, le-ltb}
use mir.Syntax.{w16}
use mir.Val.{to_z, of_z}
use mir.ValLaws.{to_z_pos}
use mir.Facts.{to_z-of_z}
use Rattle.lists.proofs.Counting.{below_or}
use Rattle.deskcells.specs.Cells.{unsigned, signed}

pub unsigned_is : (z : ℤ) → of_z w16 z ≡ unsigned z
unfolding unsigned
unsigned_is (pos n) = refl
unsigned_is (negsuc n) = omega arith

low : (n : ℕ) → n < 32768 → pos n ≡ signed n
unfolding signed
low n h = rw (lt-ltb n 32768 h)

high : (n : ℕ) → 32768 ≤ n → negsuc (65535 - n) ≡ signed n
unfolding signed
high n h = rw (le-ltb n 32768 h)

read_high : (n : ℕ) → n < 65536 → 32768 ≤ n → to_z w16 n ≡ negsuc (65535 - n)
read_high n k h =
    let e : of_z w16 (negsuc (65535 - n)) ≡ n = omega arith in
    ap (to_z w16) (sym e) ∙ to_z-of_z {w = w16} {z = negsuc (65535 - n)} (record { sfits = omega arith })

pub signed_is : (n : ℕ) → n < 65536 → to_z w16 n ≡ signed n
signed_is n k = go (below_or n 32768)
  where
    go : (n < 32768) ⊎ (32768 ≤ n) → to_z w16 n ≡ signed n
    go (inl h) = to_z_pos w16 n h ∙ low n h
    go (inr h) = read_high n k h ∙ high n h
