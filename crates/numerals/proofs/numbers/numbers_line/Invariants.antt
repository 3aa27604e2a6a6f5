use Rattle.std.proofs.Common.{get_or, drop}
use Rattle.numerals.proofs.Printing.{Printing}
use Rattle.numerals.proofs.numbers.numbers_line.Given as goal

abbrev pub invariant-loop-n : goal.invariant-loop-n
invariant-loop-n l = Printing (get_or l.numbers 0 0) (drop 1 l.numbers) l.text l.n-index
