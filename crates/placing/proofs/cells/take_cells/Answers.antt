-- `cells::take_cells` meets its contract. The loop's invariant: the cells of the places before p are taken. Assumes nothing.
use native.Mathlib.Omega.{arith}
use borrow.Author.Rules.{sfits_of}
use mir.Syntax.{w16}
use mir.Facts.{to_z-of_z}
use Rattle.placing.proofs.Taking.{place_bounds, take-start, place_taken, place_passed, take_done}
use Rattle.placing.proofs.cells.take_cells.Goals as goal
use Rattle.placing.proofs.cells.take_cells.Goals.{then-there-mark, else-there-mark}
use lib.ListN.{length-set}

pub loop-p-init : goal.loop-p-init
loop-p-init c = rw c.number-mark.ensures (take-start _ _ _ _ c.requires)

pub loop-p-preserved : goal.loop-p-preserved
loop-p-preserved c =
    let l = c.loop-p in
    elim c.if-there-mark.branch [
      | then-there-mark w ↦
          rw (w.out-is, w.n-is)
          (place_taken _ _ _ _ l.invariant c.loop-p-test.true w.if-there-mark.true _ _
          (to_z-of_z {w = w16} (sfits_of w.out-1.given))
          (to_z-of_z {w = w16} (sfits_of w.out-then-there-mark-1.given)))
      | else-there-mark w ↦ rw (w.out-is, w.n-is) (place_passed _ _ _ _ l.invariant c.loop-p-test.true w.if-there-mark.false)
    ]

pub returns : goal.returns
returns c = rw (← c.number-mark.ensures) (take_done _ _ _ _ _ c.loop-p.p c.loop-p.n c.loop-p.invariant c.loop-p-test.false)

pub offset_bounds-out-n : goal.offset_bounds-out-n
offset_bounds-out-n c = let h = place_bounds _ _ _ _ c.loop-p.invariant c.loop-p-test.true c.if-there-mark.true in omega arith

pub bounds-out-n : goal.bounds-out-n
bounds-out-n c = let h = place_bounds _ _ _ _ c.loop-p.invariant c.loop-p-test.true c.if-there-mark.true in omega arith

pub offset_bounds-out-n-then-there-mark : goal.offset_bounds-out-n-then-there-mark
offset_bounds-out-n-then-there-mark c = let h = place_bounds _ _ _ _ c.loop-p.invariant c.loop-p-test.true c.if-there-mark.true in omega arith

pub bounds-out-n-then-there-mark : goal.bounds-out-n-then-there-mark
bounds-out-n-then-there-mark c = let h = place_bounds _ _ _ _ c.loop-p.invariant c.loop-p-test.true c.if-there-mark.true in rw length-set (omega arith)

pub overflow_add-n-then-there-mark : goal.overflow_add-n-then-there-mark
overflow_add-n-then-there-mark c = let h = place_bounds _ _ _ _ c.loop-p.invariant c.loop-p-test.true c.if-there-mark.true in omega arith
