-- `take_frame` meets its contract. Assumes nothing.
use Rattle.multiplex.proofs.FrameBits.{takes_bits, frame_handed}
use Rattle.multiplex.proofs.bits.take_frame.Goals as goal

pub take_bits-requires : goal.take_bits-requires
take_bits-requires c = takes_bits c.requires _ c.bit_buffer-bits.ensures.long c.unpack.ensures

pub returns : goal.returns
returns c = frame_handed c.requires _ c.bit_buffer-bits.ensures.long c.unpack.ensures c.take_bits.ensures
