-- `kinds::grid_kinds` meets its contract. The loop's invariant: the kinds of the symbols before the nth are there. Assumes nothing.
use Rattle.kinds.proofs.Symbols.{Walked}
use Rattle.kinds.proofs.rows.grid_kinds.Given as goal

abbrev pub invariant-loop-n : goal.invariant-loop-n
invariant-loop-n l = Walked l.mode l.occupancy l.initial.out l.symbols l.carriers l.out l.n
