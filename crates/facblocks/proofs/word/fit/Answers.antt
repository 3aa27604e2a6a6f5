-- `fit` meets its contract. Assumes nothing.
use borrow.Author.Rules.{rules}
use Rattle.facblocks.proofs.Parameters.{test_turn, test_fails, test_done}
use Rattle.facblocks.proofs.word.fit.Goals as goal

pub returns-then-k-parameters : goal.returns-then-k-parameters
returns-then-k-parameters c = test_fails c.loop-k.invariant (search rules) c.loop-k-test.true c.if-k-parameters.true

pub loop-k-preserved : goal.loop-k-preserved
loop-k-preserved c = test_turn c.loop-k.invariant (search rules) c.loop-k-test.true c.if-k-parameters.false

pub returns : goal.returns
returns c = test_done c.loop-k.invariant (search rules) c.loop-k-test.false
