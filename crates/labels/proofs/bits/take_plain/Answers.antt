-- `read::take_plain` meets its contract. The loop's invariant: the bits of the first i labels are taken. Assumes nothing.
use native.Mathlib.Omega.{arith}
use Rattle.labels.proofs.Weights.{taken-filled}
use Rattle.labels.proofs.bits.take_plain.Goals as goal

pub returns : goal.returns
returns c = taken-filled _ _ _ _ _ c.requires.same (omega arith) c.loop-i.invariant
