-- `rows::send_row` meets its contract. Assumes nothing.
use mathlib.Core.Path.{◌∙◌}
use Rattle.cellmemory.proofs.Turns.{bytes_room, bytes_go, two-numbers, row-sent}
use Rattle.cellmemory.proofs.rows.send_row.Goals as goal

pub gather_row-requires : goal.gather_row-requires
gather_row-requires c = let p = c.requires in bytes_go p.0 c.buffer-cells.ensures p.1

pub to_numbers-requires : goal.to_numbers-requires
to_numbers-requires c =
    let g = c in
    two-numbers g.requires.0 g.buffer-cells.ensures g.gather_row.ensures

pub returns : goal.returns
returns c =
    let g = c in
    let p = g.requires in
    c.to_numbers.ensures ∙ row-sent p.0 g.buffer-cells.ensures g.gather_row.ensures

pub slice_bounds-cells-end : goal.slice_bounds-cells-end
slice_bounds-cells-end c = bytes_room c.requires.0 c.buffer-cells.ensures
