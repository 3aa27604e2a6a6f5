use Rattle.muxjobs.proofs.Told.{Going}
use Rattle.muxjobs.proofs.argument.read_word.Given as goal

abbrev pub invariant-loop-byte : goal.invariant-loop-byte
invariant-loop-byte l = Going l.word l.reading l.byte-index
