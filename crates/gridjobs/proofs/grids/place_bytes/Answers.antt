use mathlib.Core.Path.{ap, ◌∙◌}
use native.Mathlib.Omega.{arith}
use Rattle.std.specs.Prelude.{Ok}
use Rattle.settings.specs.Sizes.{sizes_yield}
use Rattle.console.specs.declared.Job.TheVariants.{Grid}
use Rattle.jobs.specs.SuperFrame.{grid_written}
use Rattle.jobs.proofs.Lengths.{grid_most, bytes_most}
use Rattle.gridjobs.proofs.Placed.{half_grid, cells_first, cells_parted, place_room, place_called}
use Rattle.gridjobs.proofs.grids.place_bytes.Goals as goal

pub numbers_in-cells-requires : goal.numbers_in-cells-requires
numbers_in-cells-requires c = bytes_most Grid c.args.state _ _ _ c.requires

pub slice_bounds-most_grid-end : goal.slice_bounds-most_grid-end
slice_bounds-most_grid-end c = omega (arith, half_grid c.args.state.scheme.settings _ c.grid_length-n.ensures, grid_most c.args.state.scheme.settings, c.numbers-most_grid.type_inv)

pub slice_bounds-split_at-end : goal.slice_bounds-split_at-end
slice_bounds-split_at-end c = omega (arith, bytes_most Grid c.args.state _ _ _ c.requires, c.numbers_in-cells.ensures.long)

pub split_at-requires : goal.split_at-requires
split_at-requires c = let p = c.requires in omega (arith, cells_first _ _ _ _ _ p.sizes p.accepted p.input c.numbers_in-cells.ensures.front)

pub split_at-requires-2 : goal.split_at-requires-2
split_at-requires-2 c =
    let p = c.requires in
    omega (arith, cells_first _ _ _ _ _ p.sizes p.accepted p.input c.numbers_in-cells.ensures.front, c.split_at.ensures.back_len)

pub write_grid-requires : goal.write_grid-requires
write_grid-requires c =
    let room = place_room c.args.state _ _ _ _ _ c.requires c.numbers-most_grid.ensures (half_grid _ _ c.grid_length-n.ensures) in
    omega (arith, room, c.place-placed.auto.grid)

pub returns-clause-by_index : goal.returns-clause-by_index
unfolding grid_written
returns-clause-by_index c =
    let a = c.args in
    let s = c.split_at.ensures in
    let t = c.split_at-2.ensures in
    let parts = cells_parted (sizes_yield (Ok a.z)) _ _ _ _ _ s.front s.back t.front t.back in
    λ memory. place_called a.state (sizes_yield (Ok a.z)) memory _ _ _ a.bytes.now a.out.now _ _ c.requires.sizes c.numbers_in-cells.ensures.front c.numbers-most_grid.ensures (half_grid _ _ c.grid_length-n.ensures) parts
    (c.write_grid.ensures.by_index memory ∙ ap (λ y. grid_written y a.state memory a.out.now) c.place-placed.ensures)
