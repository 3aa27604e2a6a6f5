-- `blocks::code_msc` meets its contract. The loop's invariant: state, memory and rows are those after the first i frames, and the cells of the others are there. Assumes nothing.
use Rattle.codeblocks.proofs.CodeTurns.{Coding}
use Rattle.codeblocks.proofs.blocks.code_msc.Given as goal

abbrev pub invariant-loop-i : goal.invariant-loop-i
invariant-loop-i l = Coding l.initial.after l.msc l.initial.memory l.initial.cells l.n l.memory l.cells l.after l.i
