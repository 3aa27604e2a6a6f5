-- `blocks::code_msc` meets its contract. The loop's invariant: state, memory and rows are those after the first i frames, and the cells of the others are there. Assumes nothing.
use native.Mathlib.Omega.{arith}
use borrow.Author.Rules.{rules}
use Rattle.codeblocks.proofs.CodeTurns.{numbers_low, frames-within, frames-lent, coding_start, few_numbers, coding_fits, coding_rows, coding_turn, coding_end, rows-within, rest_long}
use Rattle.codeblocks.proofs.blocks.code_msc.Goals as goal

pub overflow_mul-n : goal.overflow_mul-n
overflow_mul-n c = let h = frames-within c.requires c.slot_size-n.ensures in let k = numbers_low c.requires in search (rules, h, k)

pub slice_bounds-code_blocks-end : goal.slice_bounds-code_blocks-end
slice_bounds-code_blocks-end c = frames-within c.requires c.slot_size-n.ensures

pub code_blocks-requires : goal.code_blocks-requires
code_blocks-requires c = rw c.msc_block.ensures (frames-lent c.requires c.slot_size-n.ensures)

pub loop-i-init : goal.loop-i-init
loop-i-init c = coding_start c.requires c.slot_size-n.ensures (rw c.msc_block.ensures at c.code_blocks.ensures)

pub send_frame-requires : goal.send_frame-requires
send_frame-requires c = let w = c.loop-i.invariant in (coding_fits w c.loop-i-test.true, coding_rows w c.row_places.ensures.row_order)

pub loop-i-preserved : goal.loop-i-preserved
loop-i-preserved c = let f = c.send_frame in coding_turn c.loop-i.invariant c.loop-i-test.true f.ensures f.auto.memory c.next_state-after.ensures

pub overflow_mul-n-2 : goal.overflow_mul-n-2
overflow_mul-n-2 c = let h = rows-within c.loop-i.invariant in let k = few_numbers c.loop-i.invariant in omega (arith, h, k)

pub write_fillers-requires : goal.write_fillers-requires
write_fillers-requires c = let w = c.loop-i.invariant in omega (arith, rest_long w, w.lent.fits.allowed.settings.ranges.fillers)

pub returns : goal.returns
returns c = coding_end c.loop-i.invariant c.loop-i-test.false c.write_fillers.ensures
