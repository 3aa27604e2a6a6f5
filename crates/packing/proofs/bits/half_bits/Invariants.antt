-- `half_bits` meets its contract. Assumes nothing.
use Prim.Native.Nat.{◌≤◌}
use mathlib.Core.Path.{◌≡◌}
use lib.ListN.{length}
use Rattle.lists.proofs.Tables.{Filled}
use Rattle.packing.specs.Clauses.{half_bit}
use Rattle.packing.proofs.bits.half_bits.Given as goal

abbrev pub invariant-loop-k : goal.invariant-loop-k
invariant-loop-k l = Filled 0 half_bit l.initial.bits l.bits l.k × (l.k ≤ 64) × (length l.initial.bits ≡ 64)
