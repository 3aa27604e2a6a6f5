-- `code_blocks` meets its contract. Assumes nothing.
use Rattle.blockcoder.proofs.Each.{small_enough, any_enough}
use Rattle.blockcoder.proofs.code.code_blocks.Goals as goal

pub code_within-requires : goal.code_within-requires
code_within-requires c = (c.requires, small_enough c.requires.fits c.if-k-le-SMALL_CELLS.true)

pub code_within-requires-2 : goal.code_within-requires-2
code_within-requires-2 c = (c.requires, any_enough c.requires.fits)
