use Rattle.line.proofs.Digits.{Left}
use Rattle.line.proofs.read.are_digits.Given as goal

abbrev pub invariant-loop-i : goal.invariant-loop-i
invariant-loop-i l = Left l.bytes l.n l.i
