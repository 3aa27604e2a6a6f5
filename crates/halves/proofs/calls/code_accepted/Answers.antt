-- `code_accepted` meets its contract. Assumes nothing.
use Rattle.halves.proofs.Treated.{codes, frame_cells_lem}
use Rattle.halves.proofs.calls.code_accepted.Goals as goal

pub code_bits-requires : goal.code_bits-requires
code_bits-requires c =
    let f = c in
    codes f.requires f.frame_bits-n.ensures _ f.bit_buffer-bits.ensures.long f.msc_block-k.ensures c.treat_halves.ensures

pub returns : goal.returns
returns c =
    let f = c in
    frame_cells_lem f.requires f.frame_bits-n.ensures _ f.bit_buffer-bits.ensures.long f.msc_block-k.ensures c.treat_halves.ensures c.code_bits.ensures
