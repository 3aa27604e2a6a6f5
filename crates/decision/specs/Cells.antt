-- Measured cells: which are refused, and what they are decided to. 02, S-10.
use Rattle.std.specs.Prelude.{ℕ, ◌/◌, ◌%◌, ◌^◌, Bool, true, false, cond, not, ◌&&◌, ◌||◌, eqb, ℤ, pos, Float}
use Rattle.std.specs.Float.{nan, inf, fin}
use Rattle.std.specs.Float.Ieee.{lt}
use Rattle.block.specs.Mapping.{Labellings, axis}
use Rattle.block.specs.Reading.{place_of}
use Rattle.decision.specs.declared.Measured.{Measured}
use Rattle.decision.specs.declared.MeasuredCell.{MeasuredCell}
use Rattle.decision.specs.declared.MeasuredCell.TheVariants.{Pair, Fade}
use Rattle.decision.specs.Distance.{decision}

-- Neither infinite nor not a number.
unfoldable pub is_finite : Float → Bool
is_finite nan = false
is_finite (inf s) = false
is_finite (fin s m e) = true

-- 22: a float of a measured pair that is infinite or not a number; a gain that is, or is below zero. Minus zero isn't below zero.
unfoldable pub refused_cell : MeasuredCell → Bool
refused_cell (Pair p) = not (is_finite p.real && is_finite p.imaginary)
refused_cell (Fade gain) = not (is_finite gain) || lt gain (fin false 0 (pos 0))

-- The value on the axis of number m: cells are flat, real before imaginary.
unfoldable pub value_on : Measured → ℕ → Float
value_on p m = cond (eqb (m % 2) 0) p.real p.imaginary

-- The coordinate on that axis: the nearest of its labelling's; a fade gives 0.
unfoldable pub point_on : Labellings → MeasuredCell → ℕ → ℤ
point_on k (Pair p) m = decision (value_on p m) (axis k m)
point_on k (Fade gain) m = pos 0

-- Level bit l on that axis, i0 being bit 0: that of the coordinate's number in the axis's labelling; a fade's bits are unknown, 2.
unfoldable pub bit_on : Labellings → MeasuredCell → ℕ → ℕ → ℕ
bit_on k (Pair p) m l = place_of (axis k m) (decision (value_on p m) (axis k m)) / 2 ^ l % 2
bit_on k (Fade gain) m l = 2
