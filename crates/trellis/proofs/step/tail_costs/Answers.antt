-- `tail_costs` meets its contract. Assumes nothing.
use native.Mathlib.Omega.{arith}
use borrow.Author.Rules.{rules}
use lib.ListN.{drop}
use Rattle.lists.proofs.Tables.{filled-start, filled_turn}
use Rattle.trellis.proofs.Layers.{tail_costs}
use Rattle.trellis.proofs.step.tail_costs.Goals as goal

pub loop-s-preserved : goal.loop-s-preserved
loop-s-preserved c =
    let l = c.loop-s in
    (filled_turn 0 _ _ l.costs l.s _ (omega (arith, c.buffer-costs.ensures.long)) c.tail_cost.ensures l.invariant.0, search rules)

pub returns : goal.returns
returns c =
    let a = c in
    tail_costs (drop a.args.at a.args.values.now) c.buffer-costs.ensures.long (search rules) c.loop-s.invariant.0

pub loop-s-init : goal.loop-s-init
loop-s-init c = (filled-start 0 _ _, search rules)
