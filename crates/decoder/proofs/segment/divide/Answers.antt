-- `divide` meets its contract. Assumes nothing.
use borrow.Author.Rules.{rules}
use Rattle.decoder.proofs.Dividing.{divide_turn}
use Rattle.decoder.proofs.segment.divide.Goals as goal

pub loop-j-preserved : goal.loop-j-preserved
loop-j-preserved c = divide_turn c.loop-j.invariant (search rules) c.product.ensures
