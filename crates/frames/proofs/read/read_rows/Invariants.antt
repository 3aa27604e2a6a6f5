-- `read::read_rows` meets its contract. The loop's invariant: state and memory are those after the first i rows, and the frames that they finish are laid. Assumes nothing.
use Rattle.frames.proofs.FrameTurns.{RowsTaken}
use Rattle.frames.proofs.read.read_rows.Given as goal

abbrev pub invariant-loop-i : goal.invariant-loop-i
invariant-loop-i l = RowsTaken l.state l.msc l.initial.memory l.n l.memory l.cells l.finished l.after l.i
