-- `to_numbers` meets its contract. The loop's invariant: the numbers of the cells before i are there. Assumes nothing.
use Prim.Native.Nat.{◌*◌, ◌≤◌}
use lib.ListN.{length}
use lib.IntN.{pos}
use Rattle.lists.proofs.Tables.{Filled}
use Rattle.cellbytes.specs.CellBytes.{number_at}
use Rattle.cellbytes.proofs.cells.to_numbers.Given as goal

abbrev pub invariant-loop-i : goal.invariant-loop-i
invariant-loop-i l = (l.i ≤ length l.cells) × Filled (pos 0) (number_at l.cells) l.initial.out l.out (2 * l.i)
