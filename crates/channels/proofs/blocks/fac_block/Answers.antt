-- `fac_block` meets its contract. Assumes nothing.
use Rattle.channels.proofs.Made.{fac-made}
use Rattle.channels.proofs.blocks.fac_block.Goals as goal

pub returns : goal.returns
returns c = fac-made _ _ _ c.no_levels-levels.ensures c.pattern-p.ensures
