-- `disperse_accepted` meets its contract. Assumes nothing.
use Rattle.dispersecall.proofs.Pieces.{bytes_room, out_room, first_piece, written_room, second_piece, both_pieces}
use Rattle.dispersecall.proofs.disperse_accepted.Goals as goal

pub slice_bounds-disperse_piece-end : goal.slice_bounds-disperse_piece-end
slice_bounds-disperse_piece-end c = bytes_room c.requires c.if-n-le-PIECE_BITS.false

pub slice_bounds-disperse_piece-end-2 : goal.slice_bounds-disperse_piece-end-2
slice_bounds-disperse_piece-end-2 c = let f = c in out_room f.requires f.if-n-le-PIECE_BITS.false

pub disperse_piece-requires-2 : goal.disperse_piece-requires-2
disperse_piece-requires-2 c = let f = c in first_piece f.requires f.if-n-le-PIECE_BITS.false

pub slice_bounds-disperse_piece-count-3 : goal.slice_bounds-disperse_piece-count-3
slice_bounds-disperse_piece-count-3 c = let f = c in bytes_room f.requires f.if-n-le-PIECE_BITS.false

pub slice_bounds-disperse_piece-start-3 : goal.slice_bounds-disperse_piece-start-3
slice_bounds-disperse_piece-start-3 c = let f = c in bytes_room f.requires f.if-n-le-PIECE_BITS.false

pub slice_bounds-disperse_piece-count-4 : goal.slice_bounds-disperse_piece-count-4
slice_bounds-disperse_piece-count-4 c = let f = c in written_room f.requires f.if-n-le-PIECE_BITS.false _ c.disperse_piece-2.ensures

pub slice_bounds-disperse_piece-start-4 : goal.slice_bounds-disperse_piece-start-4
slice_bounds-disperse_piece-start-4 c = let f = c in written_room f.requires f.if-n-le-PIECE_BITS.false _ c.disperse_piece-2.ensures

pub disperse_piece-requires-3 : goal.disperse_piece-requires-3
disperse_piece-requires-3 c =
    let f = c in
    second_piece f.requires f.if-n-le-PIECE_BITS.false _ c.disperse_piece-2.ensures

pub returns : goal.returns
returns c =
    let f = c in
    both_pieces f.requires f.if-n-le-PIECE_BITS.false _ c.disperse_piece-2.ensures c.disperse_piece-3.ensures
