-- Coordinates worked out by the numbers of a labelling are those of the labelling. Assumes nothing.
use Prim.Native.Nat.{ℕ, zero, suc, ◌+◌, ◌-◌, ◌*◌, ◌≤◌, ◌<◌}
use mathlib.Core.Path.{◌≡◌, refl, sym, ◌∙◌}
use mathlib.Core.Logic.{◌⊎◌, inl, inr}
use native.Mathlib.Omega.{arith}
use borrow.Author.Tests.{lt-ltb, le-ltb}
use lib.Bits.{bit_and, and_le_l, and_le_r}
use lib.ListN.{get_or}
use lib.IntN.{pos, ◌-ℤ◌}
use mir.Syntax.{w16}
use mir.Val.{SFits, to_z, of_z}
use mir.ValLaws.{to_z_pos}
use mir.Facts.{to_z-of_z}
use Rattle.lists.specs.Bools.{every}
use Rattle.lists.specs.Lists.{table}
use Rattle.lists.specs.Same.{same_number}
use Rattle.lists.proofs.Counting.{below_or}
use Rattle.block.specs.Mapping.{coordinate, qam4, qam16, standard64, symmetric64}
use Rattle.cellbytes.proofs.Bits.{same_below}
use Rattle.mapping.specs.Labellings.{coordinate_by, LabellingFits, Labels}

-- a difference of small numbers fits
difference_fits : (a b : ℕ) → a < 32768 → b ≤ 32768 → SFits w16 (pos a -ℤ pos b)
difference_fits a zero h l = record { sfits = omega arith }
difference_fits a (suc b) h l = go (below_or a (suc b))
  where
    go : (a < suc b) ⊎ (suc b ≤ a) → SFits w16 (pos a -ℤ pos (suc b))
    go (inl m) = rw (lt-ltb a (suc b) m) (record { sfits = omega arith })
    go (inr m) = rw (le-ltb a (suc b) m) (record { sfits = omega arith })

-- the coordinate of a label below the size, as the code works it out
module _ {size odd n : ℕ} (twice : ℕ) (h : LabellingFits size odd) (l : n < 8) where
  -- what is taken off is small
  pub taken_low : (bit_and n twice ≤ n) × (bit_and n odd ≤ 1)
  taken_low = (and_le_l n twice, omega (arith, and_le_r n odd, h.jump))

  -- so both numbers are what they are as natural ones
  plain : to_z w16 (size - 1) -ℤ to_z w16 (n + bit_and n twice + 7 * bit_and n odd) ≡ pos (size - 1) -ℤ pos (n + bit_and n twice + 7 * bit_and n odd)
  plain = rw (to_z_pos w16 (size - 1) (omega (arith, h.most)), to_z_pos w16 (n + bit_and n twice + 7 * bit_and n odd) (omega (arith, taken_low)))

  pub coordinate-fits : SFits w16 (to_z w16 (size - 1) -ℤ to_z w16 (n + bit_and n twice + 7 * bit_and n odd))
  coordinate-fits = rw plain (difference_fits (size - 1) (n + bit_and n twice + 7 * bit_and n odd) (omega (arith, h.most)) (omega (arith, taken_low)))

  pub coordinate-found : n < size → to_z w16 (of_z w16 (to_z w16 (size - 1) -ℤ to_z w16 (n + bit_and n twice + 7 * bit_and n odd))) ≡ coordinate_by size twice odd n
  unfolding coordinate_by
  coordinate-found m = to_z-of_z {w = w16} coordinate-fits ∙ plain ∙ sym (rw (lt-ltb n size m))

-- past the labels it is 0
pub coordinate-past : (size twice odd n : ℕ) → size ≤ n → pos 0 ≡ coordinate_by size twice odd n
unfolding coordinate_by
coordinate-past size twice odd n h = sym (rw (le-ltb n size h))

-- the labellings' numbers
pub labels4 : Labels 2 7 0 qam4
unfolding coordinate_by coordinate same_number every table qam4
labels4 =
    record {
      fits = record { some = omega arith; most = omega arith; jump = omega arith };
      each = same_below (coordinate_by 2 7 0) (λ n. get_or qam4 n (pos 0)) 8 refl;
    }

pub labels16 : Labels 4 7 0 qam16
unfolding coordinate_by coordinate same_number every table qam16
labels16 =
    record {
      fits = record { some = omega arith; most = omega arith; jump = omega arith };
      each = same_below (coordinate_by 4 7 0) (λ n. get_or qam16 n (pos 0)) 8 refl;
    }

pub labels_standard : Labels 8 7 0 standard64
unfolding coordinate_by coordinate same_number every table standard64
labels_standard =
    record {
      fits = record { some = omega arith; most = omega arith; jump = omega arith };
      each = same_below (coordinate_by 8 7 0) (λ n. get_or standard64 n (pos 0)) 8 refl;
    }

pub labels_symmetric : Labels 8 0 1 symmetric64
unfolding coordinate_by coordinate same_number every table symmetric64
labels_symmetric =
    record {
      fits = record { some = omega arith; most = omega arith; jump = omega arith };
      each = same_below (coordinate_by 8 0 1) (λ n. get_or symmetric64 n (pos 0)) 8 refl;
    }
