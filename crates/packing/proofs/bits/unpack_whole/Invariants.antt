-- `unpack_whole` meets its contract. Assumes nothing.
use Prim.Native.Nat.{◌*◌, ◌/◌, ◌≤◌}
use mathlib.Core.Path.{◌≡◌}
use lib.ListN.{length}
use Rattle.lists.proofs.Tables.{Filled}
use Rattle.block.specs.Packing.{bit_at}
use Rattle.packing.proofs.bits.unpack_whole.Given as goal

abbrev pub invariant-loop-k : goal.invariant-loop-k
invariant-loop-k l = Filled 0 (bit_at l.bytes) l.initial.out l.out (8 * l.k) × (l.k ≤ length l.initial.out / 8) × (length l.out ≡ length l.initial.out)
