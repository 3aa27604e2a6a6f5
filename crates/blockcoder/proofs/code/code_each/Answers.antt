-- `code_each` meets its contract. The loop's invariant: the cells of the blocks before i are there. Assumes nothing.
use mathlib.Core.Path.{refl}
use Rattle.blockcoder.proofs.Each.{coded-start, bytes-within, block_lent, coded_turn, bytes_are}
use Rattle.blockcoder.proofs.code.code_each.Goals as goal

pub loop-i-init : goal.loop-i-init
loop-i-init g c = (coded-start _ _ _ _, refl)

pub slice_bounds-code_lent-end : goal.slice_bounds-code_lent-end
slice_bounds-code_lent-end g c = bytes-within c.requires (bytes_are _ c.bit_count.ensures c.div_ceil-m.ensures) c.loop-i.invariant.0 c.loop-i-test.true

pub code_lent-requires : goal.code_lent-requires
code_lent-requires g c = (block_lent c.requires (bytes_are _ c.bit_count.ensures c.div_ceil-m.ensures) c.loop-i.invariant.0 c.loop-i-test.true, rw c.loop-i.invariant.1 at c.loop-i.work.room)

pub loop-i-preserved : goal.loop-i-preserved
loop-i-preserved g c = (coded_turn c.requires (bytes_are _ c.bit_count.ensures c.div_ceil-m.ensures) c.loop-i.invariant.0 c.loop-i-test.true _ c.code_lent.ensures.out_after, c.loop-i.invariant.1)
