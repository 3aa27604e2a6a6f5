-- `take_line` meets its contract. Assumes nothing.
use Rattle.holdreading.proofs.Taking.{Taking}
use Rattle.holdreading.proofs.reading.take_line.Given as goal

abbrev pub invariant-loop-i : goal.invariant-loop-i
invariant-loop-i l = Taking l.form l.line l.initial.slot l.i l.slot
