use Rattle.std.proofs.Common.{◌≡◌, ◌+◌, ◌*◌, arith}
use Rattle.holdwriting.proofs.LinesPut.{slot_in, line_room, line-within, writing_turn, writing_end}
use Rattle.holdwriting.proofs.writing.put_lines.Goals as goal

pub put_line-requires : goal.put_line-requires
put_line-requires c =
    let within = line-within _ _ _ _ _ _ _ c.loop-k.k _ _ c.line_bytes-long.ensures c.loop-k-test.true c.loop-k.invariant in
    line_room _ _ c.args.lines _ c.args.out.now _ _ _ _ c.requires.few (slot_in _ _ _ _ (omega arith) c.requires.cells) c.line_bytes-long.ensures within

pub slice_bounds-put_line-end-in-loop-k : goal.slice_bounds-put_line-end-in-loop-k
slice_bounds-put_line-end-in-loop-k c = line-within _ _ _ _ _ _ _ c.loop-k.k _ _ c.line_bytes-long.ensures c.loop-k-test.true c.loop-k.invariant

pub loop-k-preserved : goal.loop-k-preserved
loop-k-preserved c =
    let k = c.loop-k.k in
    let long = c.line_bytes-long.result in
    let n = c.args.n in
    let at : 3 + (k + 1) * long ≡ 3 + k * long + long = omega arith in
    let from : (k + 1) * n ≡ k * n + n = omega arith in
    rw (at, from) (writing_turn _ _ _ _ _ _ _ k long _ c.line_bytes-long.ensures c.loop-k-test.true c.loop-k.invariant _ c.put_line.ensures)

pub returns : goal.returns
returns c = writing_end _ _ _ _ _ _ _ c.loop-k.k _ c.loop-k-test.false c.loop-k.invariant
