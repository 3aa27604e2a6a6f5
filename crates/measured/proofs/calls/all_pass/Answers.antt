-- `all_pass` meets its contract. Assumes nothing.
use borrow.Author.Rules.{rules}
use Rattle.measured.specs.Calls.{pass}
use Rattle.lists.proofs.Tests.{tested_end}
use Rattle.measured.proofs.Accepts.{pass_stop, pass_turn}
use Rattle.measured.proofs.calls.all_pass.Goals as goal

pub returns-then-refused : goal.returns-then-refused
returns-then-refused c =
    let t = c in
    pass_stop _ _ _ _ _ (search rules) t.cell_at.ensures c.refused.ensures t.loop-k.invariant c.if-refused.true

pub loop-k-preserved : goal.loop-k-preserved
loop-k-preserved c =
    let t = c in
    pass_turn _ _ _ _ _ (search rules) t.cell_at.ensures c.refused.ensures t.loop-k.invariant c.if-refused.false

pub returns : goal.returns
unfolding pass
returns c = tested_end _ _ _ c.loop-k-test.false c.loop-k.invariant
