-- `code_block` meets its contract. Assumes nothing.
use Rattle.blockcoder.proofs.Each.{one_block}
use Rattle.blockcoder.proofs.code.code_block.Goals as goal

pub returns : goal.returns
returns c = one_block c.requires c.code_blocks.ensures
