-- `tail_cost` meets its contract. Assumes nothing.
use native.Mathlib.Omega.{arith}
use borrow.Author.Rules.{rules}
use Rattle.trellis.proofs.Layers.{tail-start, tail_turn, tail_done, column-four}
use Rattle.trellis.proofs.step.tail_cost.Goals as goal

pub overflow_add-sum : goal.overflow_add-sum
overflow_add-sum c = omega (arith, column-four _ _ c.column_cost-sum.ensures, c.loop-i.invariant.low)

pub loop-i-preserved : goal.loop-i-preserved
loop-i-preserved c = tail_turn c.loop-i.invariant (search rules) c.column_cost-sum.ensures

pub returns : goal.returns
returns c = tail_done c.loop-i.invariant (search rules)

pub loop-i-init : goal.loop-i-init
loop-i-init c = tail-start _ _ _
