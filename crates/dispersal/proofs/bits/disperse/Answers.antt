-- `disperse` meets its contract. Assumes nothing.
use Prim.Native.Nat.{◌+◌, ◌-◌}
use mathlib.Core.Path.{◌≡◌}
use native.Mathlib.Omega.{arith}
use borrow.Author.Rules.{rules}
use Rattle.dispersal.proofs.Periods.{start, turn, done}
use Rattle.dispersal.proofs.bits.disperse.Goals as goal

pub loop-i-init : goal.loop-i-init
loop-i-init c =
    let t = turn (start c.args.treated c.args.bits.now _ c.place_in_period-at.ensures) (omega (arith, c.min-first.ensures)) c.add_sequence.ensures in
    let e : 0 + (c.min-first.result - 0) ≡ c.min-first.result = omega arith in
    (rw e at t, (λ h. omega (arith, t.long, c.place_in_period-at.ensures, c.min-first.ensures), c.whole_period-sequence.ensures))

pub returns : goal.returns
returns c = done c.loop-i.invariant.0 (search rules)

-- a whole period more
pub loop-i-preserved : goal.loop-i-preserved
loop-i-preserved c =
    let l = c.loop-i in
    let z = l.invariant.1.0 (omega (arith, l.invariant.0.long, c.loop-i-test.true)) in
    let t = turn (rw z at l.invariant.0) (omega (arith, c.min-end.ensures)) c.add_sequence-in-loop-i.ensures in
    let e : l.i + (c.min-end.result - l.i) ≡ l.i + 511 = omega arith in
    (rw e at t, (λ h. omega arith, l.invariant.1.1))

-- what is left is less than one
pub returns-2 : goal.returns-2
returns-2 c =
    let l = c.loop-i in
    let z = l.invariant.1.0 (omega (arith, l.invariant.0.long, c.loop-i-test.true)) in
    let t = turn (rw z at l.invariant.0) (omega (arith, c.min-end.ensures)) c.add_sequence-in-loop-i.ensures in
    done t (omega (arith, t.long, l.invariant.0.long))
