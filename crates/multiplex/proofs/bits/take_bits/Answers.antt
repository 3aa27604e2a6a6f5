-- `take_bits` meets its contract. Assumes nothing.
use Rattle.multiplex.proofs.FrameBits.{packs_head, packs_parts, is_handed}
use Rattle.multiplex.proofs.bits.take_bits.Goals as goal

pub pack-requires : goal.pack-requires
pack-requires c = packs_parts c.requires _ c.byte_buffer-parts.ensures.long

pub pack-requires-2 : goal.pack-requires-2
pack-requires-2 c = packs_head c.requires

pub returns : goal.returns
returns c = is_handed c.requires _ c.byte_buffer-parts.ensures.long c.pack.ensures c.pack-2.ensures c.take_parts.ensures
