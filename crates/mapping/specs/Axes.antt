-- The axes by their numbers: nothing of 01 is stated here.
use Rattle.std.specs.Prelude.{ℕ}
use Rattle.mapping.specs.declared.points.Axis.{Axis}
use Rattle.mapping.specs.declared.points.Axis.TheVariants.{Real, Imaginary}

-- Axis 0 is the real, axis 1 the imaginary one.
unfoldable pub axis_number : Axis → ℕ
axis_number Real = 0
axis_number Imaginary = 1
