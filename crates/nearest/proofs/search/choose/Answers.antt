-- `choose` meets its contract. Assumes nothing.
use borrow.Author.Rules.{rules}
use Rattle.nearest.proofs.Following.{choosing_turn}
use Rattle.nearest.proofs.search.choose.Goals as goal

pub loop-j-preserved : goal.loop-j-preserved
loop-j-preserved c =
    let l = c in
    choosing_turn l.requires l.loop-j.invariant (search rules) c.step-layer.ensures
