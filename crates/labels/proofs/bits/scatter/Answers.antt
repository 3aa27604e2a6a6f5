-- `bits::scatter` meets its contract. The loop's invariant: the bits of the labels from i on are left to scatter. Assumes nothing.
use mathlib.Core.Path.{sym, ◌∙◌}
use native.Mathlib.Omega.{arith}
use Rattle.labels.proofs.Weights.{taken-length, taken_at}
use Rattle.labels.proofs.Ordering.{within_low, scattering_start, scattering_turn, scattering_end}
use Rattle.labels.proofs.bits.scatter.Goals as goal

pub bounds-places-i : goal.bounds-places-i
bounds-places-i c = omega (arith, c.requires.within.long)

pub overflow_cast-p : goal.overflow_cast-p
overflow_cast-p c = let R = c.requires in omega (arith, R.within.high, within_low R.within c.loop-i.i (omega arith))

pub bounds-out-p : goal.bounds-out-p
bounds-out-p c = let R = c.requires in omega (arith, R.same, within_low R.within c.loop-i.i (omega arith), c.loop-i.invariant.long)

pub loop-i-preserved : goal.loop-i-preserved
loop-i-preserved c =
    let l = c.loop-i in
    let R = c.requires in
    scattering_turn _ (omega (arith, R.within.long)) (omega (arith, taken-length c.args.weight c.args.labels.now))
    (c.weighed_bit.ensures ∙ sym (taken_at _ _ _ (omega arith))) l.invariant

pub returns : goal.returns
returns c = scattering_end (omega (arith, c.requires.within.long)) c.loop-i.invariant

pub loop-i-init : goal.loop-i-init
loop-i-init c = scattering_start _ _ _
