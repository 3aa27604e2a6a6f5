-- `sums` meets its contract. Assumes nothing.
use Rattle.frameparts.proofs.Loops.{Summed}
use Rattle.frameparts.proofs.parts.sums.Given as goal

abbrev pub invariant-loop-share : goal.invariant-loop-share
invariant-loop-share l = Summed l.numbers l.share-iterator.rest.now l.a l.b l.share-iterator.size
