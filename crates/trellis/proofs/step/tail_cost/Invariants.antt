-- `tail_cost` meets its contract. Assumes nothing.
use Rattle.trellis.proofs.Layers.{Tail}
use Rattle.trellis.proofs.step.tail_cost.Given as goal

abbrev pub invariant-loop-i : goal.invariant-loop-i
invariant-loop-i l = Tail l.values l.at l.register-2 l.register l.sum l.i
