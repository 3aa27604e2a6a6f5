-- `decide_bits` meets its contract. Assumes nothing.
use Prim.Native.Nat.{◌/◌, ◌%◌, ◌≤◌}
use lib.ListN.{length}
use Rattle.lists.proofs.Tables.{Filled}
use Rattle.measured.specs.Calls.{bit_at}
use Rattle.measured.proofs.calls.decide_bits.Given as goal

abbrev pub invariant-loop-j : goal.invariant-loop-j
invariant-loop-j l = Filled 0 (λ i. bit_at l.c l.kinds l.values (i / l.each) (i % l.each)) l.initial.bits l.bits l.j × (l.j ≤ length l.initial.bits)
