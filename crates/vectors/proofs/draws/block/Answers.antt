use borrow.Author.Rules.{rules}
use Rattle.vectors.proofs.Drawn.{drawing_start, drawing_turn, drawing_end}
use Rattle.vectors.proofs.draws.block.Goals as goal

pub loop-byte-init : goal.loop-byte-init
loop-byte-init c = drawing_start _ _

pub loop-byte-preserved : goal.loop-byte-preserved
loop-byte-preserved c = drawing_turn _ _ _ _ _ _ (search rules) c.next-x.ensures c.loop-byte.invariant

pub returns : goal.returns
returns c = drawing_end _ _ _ _ _ _ _ (search rules) c.clear.ensures c.loop-byte.invariant
