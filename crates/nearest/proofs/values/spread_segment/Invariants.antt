-- `spread_segment` meets its contract. Assumes nothing.
use Rattle.nearest.proofs.Spreading.{Segment}
use Rattle.nearest.proofs.values.spread_segment.Given as goal

abbrev pub invariant-loop-j : goal.invariant-loop-j
invariant-loop-j l = Segment l.pattern l.at-2 l.received l.initial.out l.n l.out l.at l.i l.j
