-- `kept::keep_cells` meets its contract. The loop's invariant: the numbers of the cells before i are kept. Assumes nothing.
use Prim.Native.Nat.{◌*◌, ◌≤◌}
use lib.IntN.{pos}
use Rattle.lists.proofs.Tables.{Filled}
use Rattle.keptcells.proofs.Turns.{kept_by}
use Rattle.keptcells.proofs.kept.keep_cells.Given as goal

abbrev pub invariant-loop-i : goal.invariant-loop-i
invariant-loop-i l = (l.i ≤ l.n) × Filled (pos 0) (kept_by l.constellation l.cells) l.initial.out l.out (2 * l.i)
