-- `code::code_at` meets its contract. Assumes nothing.
use native.Mathlib.Omega.{arith}
use Rattle.blockplaces.specs.Clauses.{level_at}
use Rattle.multilevel.proofs.Partition.{place_room, sums-a, sums-b, ends-a, ends-b, codes_level, coded_is, over_at}
use Rattle.multilevel.proofs.code.code_at.Goals as goal

pub slice_bounds-code_level-end : goal.slice_bounds-code_level-end
slice_bounds-code_level-end c = place_room c.requires.level c.digit.ensures

pub overflow_add-at : goal.overflow_add-at
unfolding level_at
overflow_add-at c = let L = c.requires.level in omega (arith, ends-a L c.bits_before-at.ensures, L.short.0)

pub slice_bounds-code_level-end-2 : goal.slice_bounds-code_level-end-2
unfolding level_at
slice_bounds-code_level-end-2 c = ends-a c.requires.level c.bits_before-at.ensures

pub overflow_add-from : goal.overflow_add-from
unfolding level_at
overflow_add-from c = let L = c.requires.level in omega (arith, ends-b L c.bits_before-from.ensures, L.short.1)

pub slice_bounds-code_level-end-3 : goal.slice_bounds-code_level-end-3
unfolding level_at
slice_bounds-code_level-end-3 c = ends-b c.requires.level c.bits_before-from.ensures

pub code_level-requires : goal.code_level-requires
unfolding level_at
code_level-requires c = codes_level c.requires c.bits_before-at.ensures c.bits_before-from.ensures c.digit.ensures

pub returns : goal.returns
unfolding level_at
returns c = record { labels_after = coded_is c.requires c.bits_before-at.ensures c.bits_before-from.ensures c.code_level.ensures.labels_after; coded_after = over_at c.requires c.bits_before-at.ensures c.bits_before-from.ensures c.code_level.ensures.coded_after }

pub bits_before-at-requires : goal.bits_before-at-requires
bits_before-at-requires c = sums-a c.requires.level

pub bits_before-from-requires : goal.bits_before-from-requires
bits_before-from-requires c = sums-b c.requires.level
