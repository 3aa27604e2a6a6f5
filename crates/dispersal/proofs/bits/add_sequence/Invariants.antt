-- `add_sequence` meets its contract. Assumes nothing.
use Rattle.dispersal.proofs.Periods.{Adding}
use Rattle.dispersal.proofs.bits.add_sequence.Given as goal

abbrev pub invariant-loop-i : goal.invariant-loop-i
invariant-loop-i l = Adding l.at l.initial.bits l.bits l.i
