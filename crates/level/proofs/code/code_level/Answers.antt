-- `code::code_level` meets its contract: part A is added to the first labels, part B to those behind them. Assumes nothing.
use native.Mathlib.Omega.{arith}
use Rattle.level.proofs.OneLevel.{codes-a, place_low, behind_order, behind-a, codes-b, coded_level, over_level}
use Rattle.level.proofs.code.code_level.Goals as goal

pub code_a-coder-requires : goal.code_a-coder-requires
code_a-coder-requires c = codes-a c.requires

pub offset_bounds-places-n : goal.offset_bounds-places-n
offset_bounds-places-n c = omega (arith, place_low c.requires c.code_a-coder.ensures.coded_a)

pub slice_bounds-code_b-count : goal.slice_bounds-code_b-count
slice_bounds-code_b-count c = behind_order c.requires c.code_a-coder.ensures.coded_a

pub slice_bounds-code_b-start : goal.slice_bounds-code_b-start
slice_bounds-code_b-start c = behind_order c.requires c.code_a-coder.ensures.coded_a

pub slice_bounds-code_b-count-2 : goal.slice_bounds-code_b-count-2
slice_bounds-code_b-count-2 c = omega (arith, behind-a c.requires c.code_a-coder.ensures.coded_a)

pub slice_bounds-code_b-start-2 : goal.slice_bounds-code_b-start-2
slice_bounds-code_b-start-2 c = omega (arith, behind-a c.requires c.code_a-coder.ensures.coded_a)

pub code_b-requires : goal.code_b-requires
code_b-requires c = codes-b c.requires c.code_a-coder.ensures.coded_a c.code_a-coder.auto.coded

pub returns : goal.returns
returns c = record { labels_after = coded_level c.requires c.code_a-coder.ensures.coded_a c.code_b.ensures.labels_after; coded_after = over_level c.requires c.code_a-coder.ensures.coded_a c.code_a-coder.ensures.coded_after c.code_b.ensures.coded_after }
