-- `to_bytes` meets its contract. The loop's invariant: the bytes before i are there. Assumes nothing.
use Prim.Native.Nat.{ℕ, ◌+◌, ◌*◌, ◌≤◌}
use lib.ListN.{length, get_or}
use lib.IntN.{pos}
use Rattle.lists.proofs.Tables.{Filled}
use Rattle.cellbytes.specs.CellBytes.{cell_byte}
use Rattle.cellbytes.proofs.cells.to_bytes.Given as goal

abbrev pub invariant-loop-i : goal.invariant-loop-i
invariant-loop-i l = (l.i ≤ length l.initial.out) × Filled 0 (λ (j : ℕ). cell_byte (get_or l.cells (2 * j) (pos 0)) (get_or l.cells (2 * j + 1) (pos 0))) l.initial.out l.out l.i
