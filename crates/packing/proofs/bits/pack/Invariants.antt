-- `pack` meets its contract. Assumes nothing.
use Prim.Native.Nat.{◌*◌, ◌≤◌}
use lib.ListN.{length}
use Rattle.lists.proofs.Tables.{Filled}
use Rattle.block.specs.Packing.{digits}
use Rattle.packing.proofs.bits.pack.Given as goal

abbrev pub invariant-loop-k : goal.invariant-loop-k
invariant-loop-k l = Filled 0 (λ i. digits l.bits (8 * i) 8) l.initial.out l.out l.k × (l.k ≤ length l.initial.out)
