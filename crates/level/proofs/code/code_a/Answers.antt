-- `code::code_a` meets its contract. Assumes nothing.
use Rattle.level.proofs.OneLevel.{within_order, within-coded, within_labels, adds_a, coded-a}
use Rattle.level.proofs.code.code_a.Goals as goal

pub slice_bounds-add_part-end : goal.slice_bounds-add_part-end
slice_bounds-add_part-end c = within_order c.requires c.encode-coder.ensures

pub slice_bounds-add_part-end-2 : goal.slice_bounds-add_part-end-2
slice_bounds-add_part-end-2 c = within-coded c.requires c.encode-coder.ensures

pub slice_bounds-add_part-end-3 : goal.slice_bounds-add_part-end-3
slice_bounds-add_part-end-3 c = within_labels c.requires c.encode-coder.ensures

pub add_part-requires : goal.add_part-requires
add_part-requires c = adds_a c.requires c.encode-coder.ensures

pub returns : goal.returns
returns c = record { coded_a = coded-a c.requires c.encode-coder.ensures c.add_part.ensures; coded_after = c.encode-coder.ensures.written }
