-- `read::read_level` meets its contract: part A from the first labels, part B from those behind them. Assumes nothing.
use Rattle.level.proofs.OneRead.{counts, first_order, first_labels, reads-a, end_b_lem, reads-b, over-parts, level_read}
use Rattle.level.proofs.read.read_level.Goals as goal

pub coded_length-front-requires : goal.coded_length-front-requires
coded_length-front-requires c = counts c.requires

pub slice_bounds-read_part-end : goal.slice_bounds-read_part-end
slice_bounds-read_part-end c = first_order c.requires c.coded_length-front.ensures

pub slice_bounds-read_part-end-2 : goal.slice_bounds-read_part-end-2
slice_bounds-read_part-end-2 c = first_labels c.requires c.coded_length-front.ensures

pub read_part-register-requires : goal.read_part-register-requires
read_part-register-requires c = reads-a c.requires c.coded_length-front.ensures

pub slice_bounds-read_part-end-6 : goal.slice_bounds-read_part-end-6
slice_bounds-read_part-end-6 c = end_b_lem c.requires c.coded_length-front.ensures c.read_part-register.ensures.part_read

pub read_part-requires : goal.read_part-requires
read_part-requires c = reads-b c.requires c.coded_length-front.ensures c.read_part-register.ensures.part_read c.read_part-register.auto.coded

pub returns : goal.returns
returns c = record { bits_after = (level_read c.requires c.coded_length-front.ensures c.read_part-register.ensures.part_read c.read_part.ensures.part_read).0; coded_after = over-parts c.requires c.coded_length-front.ensures c.read_part-register.ensures.part_read c.read_part-register.ensures.coded_after c.read_part.ensures.coded_after }

pub slice_bounds-read_part-end-3 : goal.slice_bounds-read_part-end-3
slice_bounds-read_part-end-3 c = c.requires.end_a
