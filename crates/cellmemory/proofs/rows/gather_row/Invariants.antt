-- `rows::gather_row` meets its contract. The loop's invariant: `at` is where the slot of cell i begins, and the output holds the bytes of the cells before it.
-- Assumes nothing.
use Prim.Native.Nat.{◌/◌}
use lib.ListN.{length}
use Rattle.lists.proofs.Tables.{Filled}
use Rattle.cellmemory.proofs.Turns.{sent_byte, Stepping}
use Rattle.cellmemory.proofs.rows.gather_row.Given as goal

abbrev pub invariant-loop-i : goal.invariant-loop-i
invariant-loop-i l = Stepping l.n l.position l.places l.memory l.at l.i × Filled 0 (sent_byte (length l.memory / l.n) l.n l.memory l.position) l.initial.out l.out l.i
