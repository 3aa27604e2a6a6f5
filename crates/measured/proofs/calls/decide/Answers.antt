-- `decide` meets its contract. Assumes nothing.
use native.Mathlib.Omega.{arith}
use mathlib.Core.Path.{refl}
use Rattle.measured.proofs.Accepts.{of_settings}
use Rattle.measured.proofs.calls.decide.Goals as goal

pub constellation_of-requires : goal.constellation_of-requires
constellation_of-requires c = omega (arith, (of_settings _ _ c.in_ok-check.ensures refl).ranges.part_a.msc_low)
