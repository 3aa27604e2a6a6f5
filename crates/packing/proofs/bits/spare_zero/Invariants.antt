-- `spare_zero` meets its contract. Assumes nothing.
use mathlib.Core.Path.{◌≡◌}
use Rattle.block.specs.Packing.{spare_zero}
use Rattle.packing.proofs.bits.spare_zero.Given as goal

abbrev pub invariant-loop-i : goal.invariant-loop-i
invariant-loop-i l = spare_zero l.i l.bytes ≡ spare_zero l.n l.bytes
