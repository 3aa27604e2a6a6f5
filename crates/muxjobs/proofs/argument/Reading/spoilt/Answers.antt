-- By name, so that other numbers are refused by the values that differ.
use mathlib.Core.Path.{refl}
use Rattle.muxjobs.specs.Argument.{spoilt}
use Rattle.muxjobs.proofs.argument.Reading.spoilt.Goals as goal

pub returns : goal.returns
unfolding spoilt
returns c = refl
