-- `tables::level_places` meets its contract. Assumes nothing.
use native.Mathlib.Omega.{arith}
use Rattle.blockplaces.proofs.Orders.{counts_front, front_low, places-a, places-b, level_ordered, level_over_lem}
use Rattle.blockplaces.proofs.tables.level_places.Goals as goal

pub coded_length-front-requires : goal.coded_length-front-requires
coded_length-front-requires c = counts_front c.requires

pub overflow_add-front : goal.overflow_add-front
overflow_add-front c = omega (arith, front_low c.requires c.coded_length-front.ensures, c.requires.high)

pub slice_bounds-part_places-end : goal.slice_bounds-part_places-end
slice_bounds-part_places-end c = omega (arith, front_low c.requires c.coded_length-front.ensures, c.requires.room)

pub part_places-requires : goal.part_places-requires
part_places-requires c = places-a c.requires c.coded_length-front.ensures

pub part_places-requires-2 : goal.part_places-requires-2
part_places-requires-2 c = places-b c.requires c.coded_length-front.ensures c.part_places.new.out c.part_places.auto.out

pub returns : goal.returns
returns c =
    let p = c.part_places in
    let q = c.part_places-2 in record { level_order = level_ordered c.requires c.coded_length-front.ensures p.new.out p.auto.out q.new.out q.auto.out p.ensures.ordered q.ensures.ordered; out_after = level_over_lem c.requires c.coded_length-front.ensures p.new.out p.auto.out q.new.out p.ensures.out_after q.ensures.out_after }
