-- `cells::take_cells` meets its contract. The loop's invariant: the cells of the places before p are taken. Assumes nothing.
use Rattle.placing.proofs.Taking.{Taking}
use Rattle.placing.proofs.cells.take_cells.Given as goal

abbrev pub invariant-loop-p : goal.invariant-loop-p
invariant-loop-p l = Taking l.mark l.kinds l.grid l.initial.out l.out l.p l.n
