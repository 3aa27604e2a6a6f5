-- `multiply` meets its contract. Assumes nothing.
use Rattle.decoder.proofs.Dividing.{Multiplying}
use Rattle.decoder.proofs.segment.multiply.Given as goal

abbrev pub invariant-loop-j : goal.invariant-loop-j
invariant-loop-j l = Multiplying l.step l.initial.bits l.bits l.j
