-- `divide` meets its contract. Assumes nothing.
use Rattle.decoder.proofs.Dividing.{Dividing}
use Rattle.decoder.proofs.segment.divide.Given as goal

abbrev pub invariant-loop-j : goal.invariant-loop-j
invariant-loop-j l = Dividing l.initial.products l.products l.j
