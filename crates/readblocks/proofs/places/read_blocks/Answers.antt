-- `places::read_blocks` meets its contract. Assumes nothing.
use Rattle.readblocks.proofs.BlockTurns.{fac-lent, sdc-lent, rows-lent, blocks_read}
use Rattle.readblocks.proofs.places.read_blocks.Goals as goal

pub read_several-f-requires : goal.read_several-f-requires
read_several-f-requires c = fac-lent _ _ _ c.requires c.fac_block.ensures

pub read_several-d-requires : goal.read_several-d-requires
read_several-d-requires c = sdc-lent _ _ _ c.requires c.sdc_block.ensures

pub read_rows-finished-requires : goal.read_rows-finished-requires
read_rows-finished-requires c = rows-lent _ _ _ c.requires

pub returns : goal.returns
returns c = blocks_read _ _ _ c.requires _ _ _ _ _ _ _ c.fac_block.ensures c.sdc_block.ensures c.read_several-f.ensures c.read_several-d.ensures c.read_rows-finished.ensures
