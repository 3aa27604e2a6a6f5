-- `unmap_axis` meets its contract. Assumes nothing.
use Rattle.mapping.proofs.Labels.{Axis}
use Rattle.mapping.proofs.points.unmap_axis.Given as goal

abbrev pub invariant-loop-k : goal.invariant-loop-k
invariant-loop-k l = Axis l.fn.c l.a l.cells l.initial.out l.out l.k
