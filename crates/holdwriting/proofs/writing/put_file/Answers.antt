-- `put_file` meets its contract. Assumes nothing.
use native.Mathlib.Omega.{arith}
use lib.ListN.{length-set}
use Rattle.settings.specs.Lengths.{n_mux}
use Rattle.holdwriting.specs.Clauses.{lines_from}
use Rattle.holdwriting.proofs.FilePut.{same_room, room_three, lines_room, file_put}
use Rattle.holdwriting.proofs.writing.put_file.Goals as goal

pub bounds-out-0 : goal.bounds-out-0
bounds-out-0 c = omega (arith, room_three _ _ _ _ _ _ c.requires)

pub bounds-out-1 : goal.bounds-out-1
bounds-out-1 c = let s = c in rw length-set (omega (arith, room_three _ _ _ _ _ _ s.requires))

pub bounds-out-2 : goal.bounds-out-2
bounds-out-2 c = let s = c in rw (length-set, length-set) (omega (arith, room_three _ _ _ _ _ _ s.requires))

pub put_lines-requires : goal.put_lines-requires
unfolding n_mux
put_lines-requires c =
    let s = c in
    lines_room _ _ _ _ _ _ s.requires _ _ _ _ c.n_mux.ensures c.depth.ensures

pub shape_of-out : goal.shape_of-out
shape_of-out c =
    let s = c in
    let a = c.digit.result in
    let b = c.digit-2.result in
    let lines = lines_from s.args.form c.n_mux.result c.depth.result s.args.memory.now in
    same_room _ _ _ _ _ s.args.out.now s.requires a b _ lines c.put_lines.ensures

pub returns : goal.returns
unfolding n_mux
returns c =
    let s = c in
    file_put _ _ _ _ _ s.args.out.now s.requires _ _ _ _ _ c.n_mux.ensures c.depth.ensures
    c.digit.ensures c.digit-2.ensures c.put_lines.ensures
