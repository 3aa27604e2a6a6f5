-- `within` meets its contract. Assumes nothing.
use mathlib.Core.Path.{ap, ◌∙◌}
use Rattle.crc.specs.Bits.{fit}
use Rattle.facblocks.specs.Fields.{widths, within}
use Rattle.facblocks.proofs.blocks.within.Goals as goal

pub returns : goal.returns
unfolding within
returns c = c.fit.ensures ∙ ap (fit widths) c.parameters.ensures
