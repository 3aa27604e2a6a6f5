-- `spread_column` meets its contract. Assumes nothing.
use Rattle.nearest.proofs.Spreading.{Column}
use Rattle.nearest.proofs.values.spread_column.Given as goal

abbrev pub invariant-loop-i : goal.invariant-loop-i
invariant-loop-i l = Column l.column-2 l.at-2 l.received l.initial.out l.to l.out l.column l.at l.i
