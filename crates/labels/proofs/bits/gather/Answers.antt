-- `bits::gather` meets its contract. The loop's invariant: the first i labels have their bits added. Assumes nothing.
use native.Mathlib.Omega.{arith}
use lib.ListN.{get_or}
use Rattle.lists.proofs.Tables.{filled-start, filled_turn}
use Rattle.labels.proofs.Weights.{added_end}
use Rattle.labels.proofs.Ordering.{within_low, gather_fits, gather_next}
use Rattle.labels.proofs.bits.gather.Goals as goal

pub bounds-places-i : goal.bounds-places-i
bounds-places-i c = omega (arith, c.requires.within.long, c.requires.same, c.loop-i.invariant.long)

pub overflow_cast-p : goal.overflow_cast-p
overflow_cast-p c = omega (arith, c.requires.within.high, within_low c.requires.within c.loop-i.i (omega (arith, c.requires.same, c.loop-i.invariant.long)))

pub bounds-labels-i : goal.bounds-labels-i
bounds-labels-i c = omega (arith, c.loop-i.invariant.long, c.requires.same, within_low c.requires.within c.loop-i.i (omega (arith, c.requires.same, c.loop-i.invariant.long)))

pub bounds-bits-p : goal.bounds-bits-p
bounds-bits-p c = omega (arith, c.loop-i.invariant.long, c.requires.same, within_low c.requires.within c.loop-i.i (omega (arith, c.requires.same, c.loop-i.invariant.long)))

pub overflow_mul-labels : goal.overflow_mul-labels
overflow_mul-labels c = omega (arith, gather_fits (get_or c.args.places.now c.loop-i.i 0) c.requires c.loop-i.invariant)

pub overflow_add-labels : goal.overflow_add-labels
overflow_add-labels c = omega (arith, gather_fits (get_or c.args.places.now c.loop-i.i 0) c.requires c.loop-i.invariant)

pub bounds-labels-i-in-loop-i : goal.bounds-labels-i-in-loop-i
bounds-labels-i-in-loop-i c = omega (arith, c.loop-i.invariant.long, c.requires.same, within_low c.requires.within c.loop-i.i (omega (arith, c.requires.same, c.loop-i.invariant.long)))

pub loop-i-preserved : goal.loop-i-preserved
loop-i-preserved c =
    let l = c.loop-i in
    let R = c.requires in
    filled_turn _ _ _ _ _ _ (omega (arith, l.invariant.long)) (gather_next R (omega (arith, R.within.long, R.same, l.invariant.long)) l.invariant) l.invariant

pub returns : goal.returns
returns c = added_end _ _ _ _ _ (omega (arith, c.loop-i.invariant.long)) c.loop-i.invariant

pub loop-i-init : goal.loop-i-init
loop-i-init c = filled-start _ _ _
