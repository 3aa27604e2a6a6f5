-- `add_sequence` meets its contract. Assumes nothing.
use native.Mathlib.Omega.{arith}
use borrow.Author.Rules.{rules}
use mathlib.Core.Path.{refl}
use Rattle.dispersal.proofs.Periods.{add_turn, add_done, period_long, period_bit, period_low}
use Rattle.dispersal.proofs.bits.add_sequence.Goals as goal

pub bounds-sequence-at : goal.bounds-sequence-at
bounds-sequence-at c =
    let b = c in
    omega (arith, period_long b.requires, b.requires.there, c.loop-i-test.true)

pub overflow_add-bits-in-loop-i : goal.overflow_add-bits-in-loop-i
overflow_add-bits-in-loop-i c =
    let b = c in
    omega (arith, period_low b.requires b.loop-i.i (search rules))

pub loop-i-preserved : goal.loop-i-preserved
loop-i-preserved c =
    let b = c in
    add_turn b.loop-i.invariant (search rules) _ _ (period_bit b.requires b.loop-i.i (search rules)) refl

pub returns : goal.returns
returns c = add_done c.loop-i.invariant (search rules)
