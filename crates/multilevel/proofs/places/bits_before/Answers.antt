-- `bits_before` meets its contract. Assumes nothing.
use mathlib.Core.Path.{refl}
use native.Mathlib.Omega.{arith}
use borrow.Author.Rules.{rules}
use Rattle.blockplaces.specs.Clauses.{level_at}
use Rattle.multilevel.specs.Clauses.{bits_before}
use Rattle.multilevel.proofs.Partition.{before-next, before-fits}
use Rattle.multilevel.proofs.places.bits_before.Goals as goal

pub loop-i-init : goal.loop-i-init
unfolding bits_before
loop-i-init c = refl

pub overflow_add-sum : goal.overflow_add-sum
unfolding level_at
overflow_add-sum c =
    let l = c in
    omega (arith, l.loop-i.invariant, before-fits c.requires l.loop-i.i (search rules), c.bits_in-sum.ensures)

pub loop-i-preserved : goal.loop-i-preserved
unfolding level_at
loop-i-preserved c =
    let l = c.loop-i in
    rw c.bits_in-sum.ensures (before-next _ _ l.i _ l.invariant)
