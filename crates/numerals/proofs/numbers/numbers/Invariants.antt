use Rattle.numerals.proofs.Scanning.{Reading}
use Rattle.numerals.proofs.numbers.numbers.Given as goal

abbrev pub invariant-loop-byte : goal.invariant-loop-byte
invariant-loop-byte l = Reading l.line l.scan l.byte-index
