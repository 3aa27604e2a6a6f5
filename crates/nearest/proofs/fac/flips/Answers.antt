-- `flips` meets its contract. Assumes nothing.
use mathlib.Core.Path.{◌∙◌}
use Rattle.partlengths.specs.Formulas.{fac_bits}
use Rattle.nearest.specs.Coded.{fac_flips}
use Rattle.nearest.proofs.Blocks.{dispersed-zeros}
use Rattle.nearest.proofs.fac.flips.Goals as goal

pub returns : goal.returns
unfolding fac_flips fac_bits
returns c = c.disperse.ensures ∙ dispersed-zeros 0 72
