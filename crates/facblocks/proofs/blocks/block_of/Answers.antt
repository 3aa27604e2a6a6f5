-- `block_of` meets its contract. Assumes nothing.
use mathlib.Core.Path.{ap, ◌∙◌}
use Rattle.crc.specs.Bits.{fit}
use Rattle.facblocks.specs.Fields.{widths, within}
use Rattle.facblocks.proofs.Block.{block_put}
use Rattle.facblocks.proofs.blocks.block_of.Goals as goal

pub join-requires : goal.join-requires
unfolding within
join-requires c = ap (fit widths) c.parameters.ensures ∙ c.requires

pub returns : goal.returns
returns c = block_put _ _ _ _ c.parameters.ensures c.join.ensures c.block_from.ensures
