-- `described` meets its contract. Assumes nothing.
use mathlib.Core.Path.{refl}
use Rattle.multiplex.specs.Description.{described}
use Rattle.multiplex.proofs.description.described.Goals as goal

pub returns : goal.returns
unfolding described
returns c = refl
