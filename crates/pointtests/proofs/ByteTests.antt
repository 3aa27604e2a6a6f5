-- The test of cells that are bytes, by arithmetic on four bits. Assumes nothing.
use Prim.Native.Nat.{ℕ, ◌/◌, ◌%◌, ◌<◌}
use mathlib.Core.Bool.{Bool, true, false, ◌&&◌, ◌||◌}
use mathlib.Core.Path.{◌≡◌, refl, ◌∙◌}
use mathlib.Core.List.{List}
use native.Mathlib.Nat.{mod-one}
use native.Mathlib.Omega.{arith}
use borrow.Author.Tests.{eq-eqb, ne_eqb, eqb-true, eqb-false}
use lib.Dec.{eqb}
use lib.ListN.{get_or}
use lib.IntN.{pos}
use Rattle.lists.specs.Lists.{table}
use Rattle.lists.specs.Same.{same_number}
use Rattle.block.specs.declared.Constellation.{Constellation}
use Rattle.block.specs.declared.Constellation.TheVariants.{Qam4, Qam16, Sm64, HmSym, HmMix}
use Rattle.block.specs.Mapping.{coordinate, qam4, qam16, standard64, symmetric64, constellation}
use Rattle.block.specs.Points.{is_empty, on_axis, is_point}
use Rattle.cellbytes.specs.CellBytes.{signed, real_of, imaginary_of, numbers}
use Rattle.cellbytes.specs.TwosComplement.{twos_complement}
use Rattle.cellbytes.proofs.CellBytes.{real_at, imaginary_at}
use Rattle.pointtests.specs.PointTests.{cell_passes, all_cells}
use Rattle.pointtests.specs.Clauses.{half_passes, byte_passes, Reaches}
use Rattle.pointtests.proofs.PointTests.{agree}

-- the sixteen halves of each axis
half_4 : (n : ℕ) → n < 16 → half_passes 1 n ≡ on_axis qam4 (signed n)
unfolding on_axis same_number table qam4 coordinate signed twos_complement
half_4 = agree (half_passes 1) (λ n. on_axis qam4 (signed n)) 16 tt

half_16 : (n : ℕ) → n < 16 → half_passes 3 n ≡ on_axis qam16 (signed n)
unfolding on_axis same_number table qam16 coordinate signed twos_complement
half_16 = agree (half_passes 3) (λ n. on_axis qam16 (signed n)) 16 tt

half_standard : (n : ℕ) → n < 16 → half_passes 7 n ≡ on_axis standard64 (signed n)
unfolding on_axis same_number table standard64 coordinate signed twos_complement
half_standard = agree (half_passes 7) (λ n. on_axis standard64 (signed n)) 16 tt

half_symmetric : (n : ℕ) → n < 16 → half_passes 7 n ≡ on_axis symmetric64 (signed n)
unfolding on_axis same_number table symmetric64 coordinate signed twos_complement
half_symmetric = agree (half_passes 7) (λ n. on_axis symmetric64 (signed n)) 16 tt

pub reaches_4 : Reaches Qam4 1
unfolding constellation
reaches_4 = record { low = omega arith; real = half_4; imaginary = half_4 }

pub reaches_16 : Reaches Qam16 3
unfolding constellation
reaches_16 = record { low = omega arith; real = half_16; imaginary = half_16 }

pub reaches_standard : Reaches Sm64 7
unfolding constellation
reaches_standard = record { low = omega arith; real = half_standard; imaginary = half_standard }

pub reaches_symmetric : Reaches HmSym 7
unfolding constellation
reaches_symmetric = record { low = omega arith; real = half_symmetric; imaginary = half_symmetric }

pub reaches_mixed : Reaches HmMix 7
unfolding constellation
reaches_mixed = record { low = omega arith; real = half_symmetric; imaginary = half_standard }

-- the byte of (0, 0) is 0
half_zero : (n : ℕ) → n < 16 → same_number (pos 0) (signed n) ≡ eqb n 0
unfolding same_number signed twos_complement
half_zero = agree (λ n. same_number (pos 0) (signed n)) (λ n. eqb n 0) 16 tt

both_zero : (b : ℕ) → (eqb (b / 16) 0 && eqb (b % 16) 0) ≡ eqb b 0
both_zero b = go (eqb b 0) refl (eqb (b / 16) 0) refl
  where
    go : (x : Bool) → eqb b 0 ≡ x → (y : Bool) → eqb (b / 16) 0 ≡ y → (y && eqb (b % 16) 0) ≡ x
    go true e true f = eq-eqb (b % 16) 0 (omega (arith, eqb-true b 0 e))
    go true e false f = absurd (eqb-false (b / 16) 0 f (omega (arith, eqb-true b 0 e)))
    go false e true f = ne_eqb (b % 16) 0 (λ z. eqb-false b 0 e (omega (arith, eqb-true (b / 16) 0 f)))
    go false e false f = refl

pub blank_byte : (b : ℕ) → b < 256 → is_empty (real_of b) (imaginary_of b) ≡ eqb b 0
unfolding is_empty real_of imaginary_of
blank_byte b h = rw (half_zero (b / 16) (omega arith), half_zero (b % 16) (omega arith)) (both_zero b)

-- what the code finds of a byte
byte_axes : (c : Constellation) (blank : Bool) (top b : ℕ) → Reaches c top → b < 256
    → byte_passes top blank b ≡ (blank && is_empty (real_of b) (imaginary_of b)) || is_point (constellation c) (real_of b) (imaginary_of b)
unfolding is_point real_of imaginary_of
byte_axes c blank top b R h = rw (← blank_byte b h, R.real (b / 16) (omega arith), R.imaginary (b % 16) (omega arith))

-- and of cell i
pub byte_read : (c : Constellation) (blank : Bool) (cells : List ℕ) (i top : ℕ) (r : Bool) → Reaches c top → get_or cells i 0 < 256 → r ≡ byte_passes top blank (get_or cells i 0)
    → r ≡ cell_passes (all_cells c blank) (numbers cells) i
unfolding cell_passes
byte_read c blank cells i top r R h e =
    e ∙ byte_axes c blank top (get_or cells i 0) R h ∙ rw (real_at cells i, imaginary_at cells i, mod-one i)
