-- `code_lent` meets its contract. Assumes nothing.
use Rattle.blockcoder.proofs.Coding.{unpacks, codes-bits, block_cells, bits_room, bits-again, work_left}
use Rattle.blockcoder.proofs.code.code_lent.Goals as goal

pub unpack_parts-requires : goal.unpack_parts-requires
unpack_parts-requires c = unpacks c.requires.0 (bits_room c.requires.0 c.bit_count-total.ensures _ c.requires.1.input)

pub code_streams-requires : goal.code_streams-requires
code_streams-requires c =
    let C = c.requires.0 in
    let e = c.bit_count-total.ensures in
    (codes-bits C e (bits-again C e _ c.requires.1.input c.unpack_parts.ensures).1, c.requires.1.room)

pub returns : goal.returns
returns c =
    let C = c.requires.0 in
    let e = c.bit_count-total.ensures in
    record { out_after = block_cells C e (bits-again C e _ c.requires.1.input c.unpack_parts.ensures).1 c.code_streams.ensures.out_after; work_left = work_left C e _ c.requires.1.input c.unpack_parts.ensures c.code_streams.ensures.bits_left }
