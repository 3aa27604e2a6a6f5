use Rattle.vectors.proofs.Drawn.{Drawing}
use Rattle.vectors.proofs.draws.block.Given as goal

abbrev pub invariant-loop-byte : goal.invariant-loop-byte
invariant-loop-byte l = Drawing l.initial.x l.initial.bytes l.bytes l.x l.byte-index
