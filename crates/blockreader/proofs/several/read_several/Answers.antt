-- `read_several` meets its contract. Assumes nothing.
use Rattle.blockcoder.proofs.Each.{small_enough, any_enough}
use Rattle.blockreader.proofs.several.read_several.Goals as goal

pub read_within-requires : goal.read_within-requires
read_within-requires c = (c.requires, small_enough c.requires.fits c.if-k-le-SMALL_CELLS.true)

pub read_within-requires-2 : goal.read_within-requires-2
read_within-requires-2 c = (c.requires, any_enough c.requires.fits)
