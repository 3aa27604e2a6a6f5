-- `cells::place_cells` meets its contract. The loop's invariant: places before p are written and counted. Assumes nothing.
use Rattle.placing.specs.Clauses.{cells_from}
use Rattle.placing.proofs.Placing.{Placing}
use Rattle.placing.proofs.cells.place_cells.Given as goal

abbrev pub invariant-loop-p : goal.invariant-loop-p
invariant-loop-p l = Placing l.kinds (cells_from l.fac l.sdc l.msc) l.initial.grid l.grid l.counts l.p
