-- What the functions of this crate promise each other: nothing of 01 is stated here.
use Rattle.std.specs.Prelude.{ℕ, ◌*◌, ◌%◌, ◌<◌, ◌+◌, ◌-◌, ◌/◌, ◌≡◌, List, get_or, ℤ, pos, Bool, ◌&&◌, ◌||◌, eqb}
use Rattle.std.specs.Int.Bits.{bit_and}
use Rattle.std.specs.Int.{w16}
use Rattle.std.proofs.Common.{SFits, of_z}
use Rattle.block.specs.declared.Constellation.{Constellation}
use Rattle.block.specs.Mapping.{constellation}
use Rattle.block.specs.Points.{is_empty, on_axis, is_point}
use Rattle.cellbytes.specs.CellBytes.{signed}

-- In the places of a mask number v has 1, or all that is there.
abbrev pub by_mask : ℤ → ℤ → Bool
by_mask mask v = eqb (bit_and (of_z w16 v) (of_z w16 mask)) 1 || eqb (bit_and (of_z w16 v) (of_z w16 mask)) (of_z w16 mask)

-- A mask by which the coordinates of both axes of constellation c are told.
pub record Masks (c : Constellation) (mask : ℤ) : Type 0 where
  pub fits : SFits w16 mask
  pub real : (v : ℤ) → SFits w16 v → by_mask mask v ≡ on_axis (constellation c).real v
  pub imaginary : (v : ℤ) → SFits w16 v → by_mask mask v ≡ on_axis (constellation c).imaginary v

-- What is found of cell i by a mask: for a constellation whose coordinates the mask tells, that the cell is a point, or (0, 0) where such cells pass.
pub record Finds (mask : ℤ) (blank : Bool) (cells : List ℤ) (i : ℕ) (r : Bool) : Type 0 where
  pub found : (c : Constellation) → Masks c mask
      → r ≡ (blank && is_empty (get_or cells (2 * i) (pos 0)) (get_or cells (2 * i + 1) (pos 0)))
      || is_point (constellation c) (get_or cells (2 * i) (pos 0)) (get_or cells (2 * i + 1) (pos 0))

-- Four bits are a coordinate where the largest one is top: with that added they are even and at most twice top.
abbrev pub half_passes : ℕ → ℕ → Bool
half_passes top n = eqb (bit_and (n + top) (15 - 2 * top)) 0

-- The byte of a cell passes: (0, 0) where such cells pass, or two coordinates.
abbrev pub byte_passes : ℕ → Bool → ℕ → Bool
byte_passes top blank b = (blank && eqb b 0) || (half_passes top (b / 16) && half_passes top (b % 16))

-- The coordinates of both axes of constellation c reach up to top, and four bits are tested by it.
pub record Reaches (c : Constellation) (top : ℕ) : Type 0 where
  pub low : top < 8
  pub real : (n : ℕ) → n < 16 → half_passes top n ≡ on_axis (constellation c).real (signed n)
  pub imaginary : (n : ℕ) → n < 16 → half_passes top n ≡ on_axis (constellation c).imaginary (signed n)
