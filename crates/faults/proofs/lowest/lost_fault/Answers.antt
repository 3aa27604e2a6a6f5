-- `faults::lost_fault` meets its contract. The loop's invariant: the blocks before i are given. Assumes nothing.
use mathlib.Core.Path.{refl, ap, ◌∙◌}
use mathlib.Core.Bool.{false}
use borrow.Author.Rules.{rules}
use Rattle.lists.proofs.Tables.{table_is}
use Rattle.faults.specs.Clauses.{fault_of}
use Rattle.faults.proofs.FaultTurns.{faultless_turn, faultless_stop, faultless_end}
use Rattle.faults.proofs.lowest.lost_fault.Goals as goal

pub returns-then-not-given-i : goal.returns-then-not-given-i
returns-then-not-given-i c =
    faultless_stop _ 7 _ _ c.loop-i-test.true refl c.if-not-given-i.true c.loop-i.invariant ∙ ap fault_of (table_is _ false 7 c.args.given (search rules) (λ i h. refl))

pub loop-i-preserved : goal.loop-i-preserved
loop-i-preserved c = faultless_turn _ 7 _ _ c.loop-i-test.true refl c.if-not-given-i.false c.loop-i.invariant

pub returns : goal.returns
returns c = faultless_end _ 7 _ c.loop-i-test.false c.loop-i.invariant ∙ ap fault_of (table_is _ false 7 c.args.given (search rules) (λ i h. refl))
