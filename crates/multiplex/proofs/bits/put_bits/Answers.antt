-- `put_bits` meets its contract. Assumes nothing.
use Rattle.multiplex.proofs.FrameBits.{put_packs}
use Rattle.multiplex.proofs.bits.put_bits.Goals as goal

pub pack-requires : goal.pack-requires
pack-requires c =
    let s = c in
    put_packs s.args.head.now _ _ _ s.requires c.bit_buffer-bits.ensures.long c.lay_bits.ensures
