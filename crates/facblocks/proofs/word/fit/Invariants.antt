-- `fit` meets its contract. Assumes nothing.
use Rattle.facblocks.proofs.Parameters.{Testing}
use Rattle.facblocks.proofs.word.fit.Given as goal

abbrev pub invariant-loop-k : goal.invariant-loop-k
invariant-loop-k l = Testing l.parameters l.k
