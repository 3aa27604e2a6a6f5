-- `rows::row_places` meets its contract. Assumes nothing.
use native.Mathlib.Omega.{arith}
use Rattle.settings.specs.Lengths.{n_mux}
use Rattle.cellmemory.proofs.Turns.{places_room, row-ordered, row-over}
use Rattle.cellmemory.proofs.rows.row_places.Goals as goal

pub overflow_add-n : goal.overflow_add-n
unfolding n_mux
overflow_add-n c = omega (arith, c.n_mux-n.ensures, c.requires.settings.ranges.mux_most)

pub slice_bounds-make_places-end : goal.slice_bounds-make_places-end
unfolding n_mux
slice_bounds-make_places-end c = omega (arith, c.n_mux-n.ensures, c.requires.room)

pub make_places-requires : goal.make_places-requires
unfolding n_mux
make_places-requires c = places_room _ _ _ c.requires c.n_mux-n.ensures

pub returns : goal.returns
unfolding n_mux
returns c = record { row_order = row-ordered _ _ _ c.requires c.n_mux-n.ensures _ c.make_places.ensures; out_after = row-over _ _ _ c.requires c.n_mux-n.ensures _ c.make_places.ensures }
