use native.Mathlib.Omega.{arith}
use mathlib.Core.Path.{ap, ◌∙◌}
use Rattle.std.specs.Prelude.{Ok}
use Rattle.settings.specs.Sizes.{sizes_yield}
use Rattle.jobs.specs.SuperFrame.{code_written}
use Rattle.jobs.proofs.Rooms.{enough}
use Rattle.codejobs.proofs.Coding.{code_first, code_room, code_call_lem, code_called}
use Rattle.codejobs.proofs.code.code_bytes.Goals as goal

pub slice_bounds-most_sdc-end : goal.slice_bounds-most_sdc-end
slice_bounds-most_sdc-end c = let p = c.requires in omega (arith, (enough _ _ p.sizes p.accepted).sdcnumbers, c.numbers-most_sdc.type_inv)

pub slice_bounds-most_msc-end : goal.slice_bounds-most_msc-end
slice_bounds-most_msc-end c = let p = c.requires in omega (arith, (enough _ _ p.sizes p.accepted).mscnumbers, c.numbers-most_msc.type_inv)

pub split_at-requires : goal.split_at-requires
split_at-requires c = omega (arith, code_first _ _ _ c.requires.input)

pub split_at-requires-2 : goal.split_at-requires-2
split_at-requires-2 c = omega (arith, code_first _ _ _ c.requires.input, c.split_at.ensures.back_len)

pub write_cells-requires : goal.write_cells-requires
write_cells-requires c =
    let room = code_room c.args.state _ _ _ _ _ _ c.requires c.numbers-fac.ensures c.numbers-most_sdc.ensures c.numbers-most_msc.ensures in
    omega (arith, room, c.code-coded.auto.faccells, c.code-coded.auto.sdccells, c.code-coded.auto.msccells)

pub returns-clause-out_after : goal.returns-clause-out_after
unfolding code_written
returns-clause-out_after c =
    let a = c.args in
    let p = c.requires in
    let k = c.code-coded in
    let s = c.split_at.ensures in
    let t = c.split_at-2.ensures in
    let call = code_call_lem (sizes_yield (Ok a.z)) a.bytes.now _ _ _ _ _ _ _ (enough _ _ p.sizes p.accepted) s.front s.back t.front t.back c.numbers-fac.ensures c.numbers-most_sdc.ensures c.numbers-most_msc.ensures in
    code_called a.state (sizes_yield (Ok a.z)) a.memory.now a.bytes.now a.out.now _ _ p.sizes call (c.write_cells.ensures.by_index k.new.memory ∙ ap (λ y. code_written y a.out.now) k.ensures)
