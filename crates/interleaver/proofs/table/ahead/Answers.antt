-- `table::ahead` meets its contract: as s is a power of two, the mask takes the remainder. Assumes nothing.
use lib.Bits.{and_mask}
use Rattle.interleaver.proofs.table.ahead.Goals as goal

pub returns : goal.returns
returns c = rw c.requires.power (and_mask _ c.requires.digits)
