-- `follow` meets its contract. Assumes nothing.
use borrow.Author.Rules.{rules}
use Rattle.nearest.proofs.Following.{following_turn, following_done}
use Rattle.nearest.proofs.search.follow.Goals as goal

pub loop-j-preserved : goal.loop-j-preserved
loop-j-preserved c =
    let l = c in
    following_turn l.requires l.loop-j.invariant (search rules) c.digit-bit.ensures c.next-register.ensures

pub returns : goal.returns
returns c = following_done c.requires c.loop-j.invariant (search rules)
