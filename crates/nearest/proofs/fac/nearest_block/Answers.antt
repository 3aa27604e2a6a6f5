-- `nearest_block` meets its contract. Assumes nothing.
use Rattle.nearest.proofs.Blocks.{packs}
use Rattle.nearest.proofs.fac.nearest_block.Goals as goal

pub pack-requires : goal.pack-requires
pack-requires c = packs c.requires c.nearest_bits-count.ensures
