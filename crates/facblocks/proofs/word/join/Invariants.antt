-- `join` meets its contract. Assumes nothing.
use Rattle.facblocks.proofs.Parameters.{Joining}
use Rattle.facblocks.proofs.word.join.Given as goal

abbrev pub invariant-loop-k : goal.invariant-loop-k
invariant-loop-k l = Joining l.parameters l.word l.k
