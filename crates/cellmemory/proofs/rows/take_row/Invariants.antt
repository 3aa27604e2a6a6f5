-- `rows::take_row` meets its contract. The loop's invariant: `at` is where the slot of cell i begins, the delay is that of cell i, and what is left of the row
-- leads to what the whole leads to. Assumes nothing.
use Prim.Native.Nat.{◌*◌}
use mathlib.Core.Path.{◌≡◌}
use lib.ListN.{length}
use Rattle.cellmemory.proofs.Turns.{Stepping, Leading}
use Rattle.cellmemory.proofs.rows.take_row.Given as goal

abbrev pub invariant-loop-i : goal.invariant-loop-i
invariant-loop-i l = Stepping l.n l.position l.places l.initial.memory l.at l.i × ((length l.row ≡ 2 * l.n) × Leading l.depth l.n l.position l.count l.row l.initial.memory l.delay l.i l.memory)
