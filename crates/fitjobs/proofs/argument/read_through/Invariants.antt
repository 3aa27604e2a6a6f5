use Rattle.fitjobs.proofs.Fitted.{Going}
use Rattle.fitjobs.proofs.argument.read_through.Given as goal

abbrev pub invariant-loop-byte : goal.invariant-loop-byte
invariant-loop-byte l = Going l.word l.count l.byte-index
