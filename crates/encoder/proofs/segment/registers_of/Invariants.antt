-- `registers_of` meets its contract. Assumes nothing.
use Prim.Native.Nat.{◌+◌, ◌≤◌}
use lib.ListN.{length}
use Rattle.lists.proofs.Tables.{Filled}
use Rattle.component.specs.Coding.{register_at}
use Rattle.encoder.proofs.segment.registers_of.Given as goal

abbrev pub invariant-loop-k : goal.invariant-loop-k
invariant-loop-k l = Filled 0 (λ q. register_at l.bits (l.from + q)) l.initial.registers l.registers l.k × (l.k ≤ length l.initial.registers)
