-- `unpack` meets its contract. Assumes nothing.
use Rattle.lists.proofs.Tables.{Filled}
use Rattle.block.specs.Packing.{bit_at}
use Rattle.frameparts.proofs.bits.unpack.Given as goal

abbrev pub invariant-loop-i : goal.invariant-loop-i
invariant-loop-i l = Filled 0 (bit_at l.bytes) l.initial.out l.out l.i
