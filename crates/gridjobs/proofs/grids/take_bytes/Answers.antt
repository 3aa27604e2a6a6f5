use mathlib.Core.Path.{ap, ◌∙◌}
use native.Mathlib.Omega.{arith}
use Rattle.std.specs.Prelude.{Ok}
use Rattle.settings.specs.Sizes.{sizes_yield}
use Rattle.console.specs.declared.Job.TheVariants.{Ungrid}
use Rattle.jobs.specs.SuperFrame.{cells_written}
use Rattle.jobs.proofs.Rooms.{enough}
use Rattle.jobs.proofs.Lengths.{bytes_most}
use Rattle.gridjobs.proofs.Placed.{after_taking, take_room, take_called}
use Rattle.gridjobs.proofs.grids.take_bytes.Goals as goal

pub numbers_in-grid-requires : goal.numbers_in-grid-requires
numbers_in-grid-requires c = bytes_most Ungrid c.args.state _ _ _ c.requires

pub slice_bounds-most_sdc-end : goal.slice_bounds-most_sdc-end
slice_bounds-most_sdc-end c = let p = c.requires in omega (arith, (enough _ _ p.sizes p.accepted).sdcnumbers, c.numbers-most_sdc.type_inv)

pub slice_bounds-most_msc-end : goal.slice_bounds-most_msc-end
slice_bounds-most_msc-end c = let p = c.requires in omega (arith, (enough _ _ p.sizes p.accepted).mscnumbers, c.numbers-most_msc.type_inv)

pub slice_bounds-take-end : goal.slice_bounds-take-end
slice_bounds-take-end c = omega (arith, bytes_most Ungrid c.args.state _ _ _ c.requires, c.numbers_in-grid.ensures.long)

pub write_cells-requires : goal.write_cells-requires
write_cells-requires c =
    let room = take_room c.args.state _ _ _ _ _ _ c.requires c.numbers-fac.ensures c.numbers-most_sdc.ensures c.numbers-most_msc.ensures in
    omega (arith, room, c.take-taken.auto.fac, c.take-taken.auto.sdc, c.take-taken.auto.msc)

pub returns-clause-by_index : goal.returns-clause-by_index
unfolding cells_written
returns-clause-by_index c =
    let a = c.args in
    let p = c.requires in
    λ memory. take_called a.state (sizes_yield (Ok a.z)) memory _ _ _ _ a.bytes.now a.out.now _ (enough _ _ p.sizes p.accepted) p.sizes c.numbers_in-grid.ensures.front c.numbers-fac.ensures c.numbers-most_sdc.ensures c.numbers-most_msc.ensures
    (rw (c.and.ensures, after_taking a.state c.take-taken.result) at (c.write_cells.ensures.by_index memory) ∙ ap (λ y. cells_written y a.state memory a.out.now) c.take-taken.ensures)
