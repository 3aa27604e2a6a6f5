-- `last_byte` meets its contract. Assumes nothing.
use Rattle.packing.proofs.Bytes.{Byte}
use Rattle.packing.proofs.bits.last_byte.Given as goal

abbrev pub invariant-loop-j : goal.invariant-loop-j
invariant-loop-j l = Byte l.bits l.at l.byte l.j
