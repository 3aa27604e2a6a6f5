-- `nearest_bits` meets its contract. Assumes nothing.
use Rattle.nearest.proofs.Blocks.{found_block}
use Rattle.nearest.proofs.fac.nearest_bits.Goals as goal

pub returns : goal.returns
returns c = found_block c.requires.0 c.put_back.ensures c.search_block.ensures
