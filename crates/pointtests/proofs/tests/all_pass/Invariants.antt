-- `all_pass` meets its contract. Assumes nothing.
use Prim.Native.Nat.{◌/◌}
use lib.ListN.{length}
use Rattle.lists.proofs.Tests.{Passed}
use Rattle.pointtests.specs.PointTests.{cell_passes, all_cells}
use Rattle.pointtests.proofs.tests.all_pass.Given as goal

abbrev pub invariant-loop-i : goal.invariant-loop-i
invariant-loop-i l = Passed (cell_passes (all_cells l.fn.c l.blank) l.cells) (length l.cells / 2) l.i l.passed
