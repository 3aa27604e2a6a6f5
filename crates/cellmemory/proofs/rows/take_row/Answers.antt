-- `rows::take_row` meets its contract. The loop's invariant: `at` is where the slot of cell i begins, the delay is that of cell i, and what is left of the row
-- leads to what the whole leads to. Assumes nothing.
use native.Mathlib.Omega.{arith}
use Rattle.superframe.specs.Interleaving.{taken}
use Rattle.superframe.specs.Code.{progress_of}
use Rattle.cellmemory.proofs.Turns.{row_goes, row-depth, row_pairs, half_row, slot_room, start_fits}
use Rattle.cellmemory.proofs.Turns.{stepping_start, stepping_turn, cell_there, leading_start, cell_read, leading_turn, leading_end}
use Rattle.cellmemory.proofs.rows.take_row.Goals as goal

pub loop-i-init : goal.loop-i-init
loop-i-init c =
    let p = c.requires in
    let g = row_goes p.0 p.1 in
    (stepping_start g, (row_pairs p.0, leading_start _ _ _ _ _ _ g.fits.within))

pub loop-i-preserved : goal.loop-i-preserved
loop-i-preserved c =
    let l = c.loop-i.invariant in
    let t = c.loop-i-test.true in
    let w = l.0 in
    let h = cell_there w t in
    let put = cell_read _ _ _ _ _ _ c.take_cell-arg-1.given c.take_cell-arg-in-loop-i-1.given c.take_cell.ensures in (
      stepping_turn w t _ c.slot_before-at.ensures,
      (l.1.0, leading_turn _ _ _ _ _ _ _ _ _ _ _ _ _ h.cell_in w.ring h.place_is t l.1.1 put c.next_modulo-delay.ensures),
    )

pub returns : goal.returns
unfolding taken progress_of
returns c =
    let w = c.loop-i.invariant in
    let h = c.requires.0 in
    leading_end _ _ _ _ _ _ _ _ _ w.0.upto c.loop-i-test.false w.1.1 _ (row-depth h) (half_row h)

pub nonzero_div-depth : goal.nonzero_div-depth
nonzero_div-depth c = let p = c.requires in omega (arith, (row_goes p.0 p.1).fits.low)

pub overflow_sub-last : goal.overflow_sub-last
overflow_sub-last c = let p = c.requires in slot_room (row_goes p.0 p.1).fits

pub overflow_mul-at : goal.overflow_mul-at
overflow_mul-at c = let p = c.requires in start_fits (row_goes p.0 p.1).fits

pub overflow_add-at : goal.overflow_add-at
overflow_add-at c = (cell_there c.loop-i.invariant.0 c.loop-i-test.true).sum_fits

pub bounds-memory-at : goal.bounds-memory-at
bounds-memory-at c =
    let l = c.loop-i.invariant in
    omega (arith, (cell_there l.0 c.loop-i-test.true).cell_in, l.1.1.long)
