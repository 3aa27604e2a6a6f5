-- `multiply` meets its contract. Assumes nothing.
use borrow.Author.Rules.{rules}
use Rattle.decoder.proofs.Dividing.{multiply_turn}
use Rattle.decoder.proofs.segment.multiply.Goals as goal

pub loop-j-preserved : goal.loop-j-preserved
loop-j-preserved c = multiply_turn c.loop-j.invariant (search rules) c.product.ensures
