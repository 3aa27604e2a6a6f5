-- `place` meets its contract. Assumes nothing.
use Rattle.decision.proofs.Places.{Placing}
use Rattle.decision.proofs.axis.place.Given as goal

abbrev pub invariant-loop-i : goal.invariant-loop-i
invariant-loop-i l = Placing l.x l.first l.last l.i
