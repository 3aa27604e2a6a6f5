-- `put_frame` meets its contract. Assumes nothing.
use Rattle.multiplex.proofs.FrameBits.{is_built}
use Rattle.multiplex.proofs.bits.put_frame.Goals as goal

pub returns : goal.returns
returns c = is_built c.requires _ c.byte_buffer-parts.ensures.long c.lay_parts.ensures c.put_bits.ensures
