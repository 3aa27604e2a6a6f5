-- Digests, as the code works them out. Assumes nothing.
use Prim.Native.Nat.{ℕ, ◌+◌, ◌*◌, ◌/◌, ◌%◌, ◌^◌, ◌≤◌, ◌<◌}
use mathlib.Core.Path.{◌≡◌, sym}
use mathlib.Core.List.{List}
use native.Mathlib.Nat.{add-mul-mod_self_left}
use native.Mathlib.Numerals.{add-one}
use native.Mathlib.Omega.{arith}
use borrow.Author.Rules.{sfits_of}
use lib.ListN.{length, get_or, drop, drop_of_length-le}
use lib.Seq.{drop-cons}
use lib.IntN.{ℤ, pos, negsuc}
use lib.Signed.{mag}
use mir.Syntax.{w16}
use mir.Val.{SFits, to_z, of_z}
use mir.Facts.{to_z-of_z}
use Rattle.vectors.specs.Digest.{taken, shifted, cells_taken}

-- remainders may be taken first
pub taken_is : (d v : ℕ) → (d % 4294967291 * 31 + v % 4294967291) % 4294967291 ≡ taken d v
unfolding taken
taken_is d v = sym (rw e (add-mul-mod_self_left (d % 4294967291 * 31 + v % 4294967291) 4294967291 (d / 4294967291 * 31 + v / 4294967291)))
  where
    e : d * 31 + v ≡ (d % 4294967291 * 31 + v % 4294967291) + 4294967291 * (d / 4294967291 * 31 + v / 4294967291)
    e = omega arith

-- 8 more than its four lowest binary digits, modulo 16, is what a number enters as
pub shifted_is : (v : ℤ) → SFits w16 v → (of_z w16 v % 16 + 8) % 16 ≡ shifted v
unfolding shifted
shifted_is (pos n) f = omega arith
shifted_is (negsuc n) f = omega (arith, f.sfits)

-- what is left, with the next number taken
pub next-taken : (d : ℕ) (cells : List ℤ) (i : ℕ) (v : ℕ) → i < length cells → mag (get_or cells i (pos 0)) < 2 ^ 15
    → v ≡ shifted (to_z w16 (of_z w16 (get_or cells i (pos 0)))) → cells_taken (taken d v) (drop (i + 1) cells) ≡ cells_taken d (drop i cells)
unfolding cells_taken
next-taken d cells i v h f e =
    rw (drop-cons cells i (pos 0) h, add-one i, e, to_z-of_z {w = w16} (sfits_of {w = w16} {z = get_or cells i (pos 0)} f))

-- nothing left
pub all-taken : (d : ℕ) (cells : List ℤ) (i : ℕ) → length cells ≤ i → d ≡ cells_taken d (drop i cells)
unfolding cells_taken
all-taken d cells i h = rw (drop_of_length-le cells {i = i} h)
