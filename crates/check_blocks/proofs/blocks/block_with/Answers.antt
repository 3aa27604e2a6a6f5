-- `block_with` meets its contract. Assumes nothing.
use Rattle.check_blocks.proofs.ByKind.{lent-front}
use Rattle.check_blocks.proofs.blocks.block_with.Goals as goal

pub block_in-requires : goal.block_in-requires
block_in-requires c =
    let e = c.bit_count-bits.ensures in
    let d = c.div_ceil-n.ensures in
    let p = c.requires in
    record { counted = e; drawn = lent-front p.0 e d p.1.drawn p.1.whole; read = lent-front p.0 e d p.1.read p.1.whole }
