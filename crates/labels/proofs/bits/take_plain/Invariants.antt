-- `read::take_plain` meets its contract. The loop's invariant: the bits of the first i labels are taken. Assumes nothing.
use Prim.Native.Nat.{ℕ, ◌/◌, ◌%◌}
use lib.ListN.{get_or}
use Rattle.lists.proofs.Tables.{Filled}
use Rattle.labels.proofs.bits.take_plain.Given as goal

abbrev pub invariant-loop-i : goal.invariant-loop-i
invariant-loop-i l = Filled 0 (λ (k : ℕ). get_or l.labels k 0 / l.weight % 2) l.initial.out l.out l.i
