-- `choose` meets its contract. Assumes nothing.
use Rattle.nearest.proofs.Following.{Choosing}
use Rattle.nearest.proofs.search.choose.Given as goal

abbrev pub invariant-loop-j : goal.invariant-loop-j
invariant-loop-j l = Choosing l.flips l.values l.initial.choices l.choices l.j l.costs
