-- `unpack_rest` meets its contract. Assumes nothing.
use Prim.Native.Nat.{◌+◌, ◌≤◌}
use lib.ListN.{length}
use Rattle.lists.proofs.Tables.{Filled}
use Rattle.block.specs.Packing.{bit_at}
use Rattle.packing.proofs.bits.unpack_rest.Given as goal

abbrev pub invariant-loop-i : goal.invariant-loop-i
invariant-loop-i l = Filled 0 (λ k. bit_at l.bytes (l.from + k)) l.initial.out l.out l.i × (l.i ≤ length l.initial.out)
