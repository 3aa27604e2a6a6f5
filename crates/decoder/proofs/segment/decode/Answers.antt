-- `decode` meets its contract. Assumes nothing.
use Rattle.decoder.proofs.segment.decode.Goals as goal

pub decode_segment-requires : goal.decode_segment-requires
decode_segment-requires c = rw c.new.ensures c.requires.1

pub returns : goal.returns
returns c = rw c.new.ensures at c.decode_segment.ensures
