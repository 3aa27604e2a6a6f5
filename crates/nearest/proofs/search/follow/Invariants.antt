-- `follow` meets its contract. Assumes nothing.
use Rattle.nearest.proofs.Following.{Following}
use Rattle.nearest.proofs.search.follow.Given as goal

abbrev pub invariant-loop-j : goal.invariant-loop-j
invariant-loop-j l = Following l.flips l.choices l.initial.out l.out l.register l.j
