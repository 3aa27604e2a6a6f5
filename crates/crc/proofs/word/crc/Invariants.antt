-- `crc` meets its contract. Assumes nothing.
use Rattle.crc.proofs.Register.{Turning}
use Rattle.crc.proofs.word.crc.Given as goal

abbrev pub invariant-loop-n : goal.invariant-loop-n
invariant-loop-n l = Turning l.word l.register l.n
