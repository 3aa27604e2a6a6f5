-- `code::add_plain` meets its contract. The loop's invariant: the first i labels have their bits added. Assumes nothing.
use native.Mathlib.Omega.{arith}
use Rattle.labels.proofs.Weights.{added_end}
use Rattle.labels.proofs.bits.add_plain.Goals as goal

pub returns : goal.returns
returns c = added_end _ _ _ _ _ (omega arith) c.loop-i.invariant
