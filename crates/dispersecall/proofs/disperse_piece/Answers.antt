-- `disperse_piece` meets its contract. Assumes nothing.
use Rattle.dispersecall.proofs.Answers.{unpacks, part_room, again_room, packs, packed-front}
use Rattle.dispersecall.proofs.disperse_piece.Goals as goal

pub slice_bounds-bits-end-2 : goal.slice_bounds-bits-end-2
slice_bounds-bits-end-2 c =
    let b = c in
    part_room b.requires _ b.bit_buffer-bits.ensures.long c.unpack.ensures

pub slice_bounds-pack-end : goal.slice_bounds-pack-end
slice_bounds-pack-end c =
    let b = c in
    again_room b.requires _ b.bit_buffer-bits.ensures.long c.unpack.ensures _ c.disperse.ensures

pub pack-requires : goal.pack-requires
pack-requires c =
    let b = c in
    packs b.requires _ b.bit_buffer-bits.ensures.long c.unpack.ensures _ c.disperse.ensures

pub returns : goal.returns
returns c =
    let b = c in
    packed-front b.requires _ b.bit_buffer-bits.ensures.long c.unpack.ensures _ c.disperse.ensures c.pack.ensures

pub unpack-requires : goal.unpack-requires
unpack-requires c = unpacks c.requires _ c.bit_buffer-bits.ensures.long
