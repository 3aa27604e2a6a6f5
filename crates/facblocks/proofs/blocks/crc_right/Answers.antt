-- `crc_right` meets its contract. Assumes nothing.
use Rattle.facblocks.proofs.Block.{crc_test}
use Rattle.facblocks.proofs.blocks.crc_right.Goals as goal

pub returns : goal.returns
returns c =
    let b = c in
    crc_test b.args.block.now _ _ c.word_of.ensures c.crc.ensures (c.fits-block 8)
