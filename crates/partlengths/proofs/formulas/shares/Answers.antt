-- What is summed with what is left is the whole.
use mathlib.Core.Path.{◌∙◌, ap}
use native.Mathlib.Omega.{arith}
use lib.ListN.{get_or}
use Rattle.partlengths.specs.Clauses.{share}
use Rattle.partlengths.proofs.Parts.{summed_turn, summed_done, shares_five}
use Rattle.partlengths.proofs.formulas.shares.Goals as goal

pub loop-rate-preserved : goal.loop-rate-preserved
loop-rate-preserved c =
    summed_turn _ _ _ _ _ c.loop-rate.invariant
    (rw c.rates-rate-items.ensures at c.loop-rate-test.true)
    (c.share-sum.ensures ∙ ap (λ l. share c.args.coded (get_or l c.loop-rate.rate-index 0)) c.rates-rate-items.ensures)

pub overflow_add-sum : goal.overflow_add-sum
overflow_add-sum c =
    let five =
    shares_five c.args.msc c.args.level
    c.args.coded
    in
    let next = (loop-rate-preserved c).whole in
    omega arith

pub returns : goal.returns
returns c =
    summed_done _ _ _ _ c.loop-rate.invariant (rw c.rates-rate-items.ensures at c.loop-rate-test.false)
