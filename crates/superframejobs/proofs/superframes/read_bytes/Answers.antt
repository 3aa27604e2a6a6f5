use mathlib.Core.Path.{ap, ◌∙◌}
use native.Mathlib.Omega.{arith}
use Rattle.std.specs.Prelude.{Ok}
use Rattle.settings.specs.Sizes.{sizes_yield}
use Rattle.jobs.specs.Clauses.{read_job}
use Rattle.jobs.specs.SuperFrame.{read_answered, read_on_answered}
use Rattle.jobs.proofs.Rooms.{enough}
use Rattle.jobs.proofs.Lengths.{bytes_most}
use Rattle.superframejobs.proofs.Reading.{reads, cells_first, read_room, read_call_lem, read_called, read_on_called}
use Rattle.superframejobs.proofs.superframes.read_bytes.Goals as goal

pub numbers_in-numbers-requires : goal.numbers_in-numbers-requires
numbers_in-numbers-requires c = bytes_most (read_job c.args.on) c.args.state _ _ _ c.requires

pub slice_bounds-split_at-end : goal.slice_bounds-split_at-end
slice_bounds-split_at-end c = omega (arith, bytes_most (read_job c.args.on) c.args.state _ _ _ c.requires, c.numbers_in-numbers.ensures.long)

pub split_at-requires : goal.split_at-requires
split_at-requires c =
    let p = c.requires in
    omega (arith, cells_first (reads c.args.on) _ _ _ _ _ p.sizes p.accepted p.input c.numbers_in-numbers.ensures.front)

pub split_at-requires-2 : goal.split_at-requires-2
split_at-requires-2 c =
    let p = c.requires in
    omega (arith, cells_first (reads c.args.on) _ _ _ _ _ p.sizes p.accepted p.input c.numbers_in-numbers.ensures.front, c.split_at.ensures.back_len)

pub slice_bounds-most_sdc-end : goal.slice_bounds-most_sdc-end
slice_bounds-most_sdc-end c = let p = c.requires in omega (arith, (enough _ _ p.sizes p.accepted).sdcbytes, c.bytes-most_sdc.type_inv)

pub slice_bounds-most_msc-end : goal.slice_bounds-most_msc-end
slice_bounds-most_msc-end c = let p = c.requires in omega (arith, (enough _ _ p.sizes p.accepted).mscbytes, c.bytes-most_msc.type_inv)

pub write_read-requires : goal.write_read-requires
write_read-requires c =
    let r = c.read_on-reading.auto in
    let room = read_room (reads c.args.on) c.args.state _ _ _ _ _ _ c.requires c.bytes-fac.ensures c.bytes-most_sdc.ensures c.bytes-most_msc.ensures in
    omega (arith, rw c.if-on.true at room, r.fac, r.sdc, r.msc, r.lost)

pub returns-then-on-clause-out_after : goal.returns-then-on-clause-out_after
unfolding read_on_answered
returns-then-on-clause-out_after c =
    let a = c.args in
    let p = c.requires in
    let k = c.read_on-reading in
    let s = c.split_at.ensures in
    let t = c.split_at-2.ensures in
    let call = read_call_lem (sizes_yield (Ok a.z)) _ _ _ _ _ _ _ _ (enough _ _ p.sizes p.accepted) s.front s.back t.front t.back c.bytes-fac.ensures c.bytes-most_sdc.ensures c.bytes-most_msc.ensures in
    rw c.if-on.true (read_on_called a.state (sizes_yield (Ok a.z)) a.memory.now _ a.bytes.now a.out.now _ _ p.sizes c.numbers_in-numbers.ensures.front call
    (c.write_read.ensures.by_index k.new.memory ∙ ap (λ y. read_on_answered y a.out.now) k.ensures))

pub write_read-requires-2 : goal.write_read-requires-2
write_read-requires-2 c =
    let r = c.read-reading.auto in
    let room = read_room (reads c.args.on) c.args.state _ _ _ _ _ _ c.requires c.bytes-fac.ensures c.bytes-most_sdc.ensures c.bytes-most_msc.ensures in
    omega (arith, rw c.if-on.false at room, r.fac, r.sdc, r.msc)

pub returns-clause-out_after : goal.returns-clause-out_after
unfolding read_answered
returns-clause-out_after c =
    let a = c.args in
    let p = c.requires in
    let k = c.read-reading in
    let s = c.split_at.ensures in
    let t = c.split_at-2.ensures in
    let call = read_call_lem (sizes_yield (Ok a.z)) _ _ _ _ _ _ _ _ (enough _ _ p.sizes p.accepted) s.front s.back t.front t.back c.bytes-fac.ensures c.bytes-most_sdc.ensures c.bytes-most_msc.ensures in
    rw c.if-on.false (read_called a.state (sizes_yield (Ok a.z)) a.memory.now _ a.bytes.now a.out.now _ _ p.sizes c.numbers_in-numbers.ensures.front call
    (c.write_read-2.ensures.by_index k.new.memory ∙ ap (λ y. read_answered y a.out.now) k.ensures))
