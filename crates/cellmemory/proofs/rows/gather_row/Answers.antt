-- `rows::gather_row` meets its contract. The loop's invariant: `at` is where the slot of cell i begins, and the output holds the bytes of the cells before it.
-- Assumes nothing.
use mathlib.Core.Path.{refl}
use Rattle.lists.proofs.Tables.{filled-start}
use Rattle.cellmemory.proofs.Turns.{stepping_start, stepping_turn, cell_there, send_turn, gather_end}
use Rattle.cellmemory.proofs.rows.gather_row.Goals as goal

pub loop-i-preserved : goal.loop-i-preserved
loop-i-preserved c =
    let l = c.loop-i in
    let t = c.loop-i-test.true in
    let w = l.invariant.0 in
    let m = c.args.memory.now in
    (stepping_turn w t _ c.slot_before-at.ensures, send_turn _ _ _ _ _ _ w.ring (cell_there w t).place_is m _ _ t l.invariant.1)

pub returns : goal.returns
returns c = let w = c.loop-i.invariant in gather_end _ _ _ _ _ _ _ refl w.0.upto c.loop-i-test.false w.1

pub loop-i-init : goal.loop-i-init
loop-i-init c = (stepping_start c.requires, filled-start _ _ _)

pub overflow_add-out : goal.overflow_add-out
overflow_add-out c = (cell_there c.loop-i.invariant.0 c.loop-i-test.true).sum_fits

pub bounds-memory-at : goal.bounds-memory-at
bounds-memory-at c = (cell_there c.loop-i.invariant.0 c.loop-i-test.true).cell_in
