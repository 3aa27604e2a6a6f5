-- `split` meets its contract. Assumes nothing.
use Rattle.facblocks.proofs.Parameters.{Splitting}
use Rattle.facblocks.proofs.word.split.Given as goal

abbrev pub invariant-loop-k : goal.invariant-loop-k
invariant-loop-k l = Splitting l.word l.left l.parameters l.k
