-- `code::add_plain` meets its contract. The loop's invariant: the first i labels have their bits added. Assumes nothing.
use Prim.Native.Nat.{ℕ, ◌+◌, ◌*◌}
use lib.ListN.{get_or}
use Rattle.lists.proofs.Tables.{Filled}
use Rattle.labels.proofs.bits.add_plain.Given as goal

abbrev pub invariant-loop-i : goal.invariant-loop-i
invariant-loop-i l = Filled 0 (λ (k : ℕ). get_or l.initial.labels k 0 + l.weight * get_or l.bits k 0) l.initial.labels l.labels l.i
