-- `bytes_pass` meets its contract. Assumes nothing.
use lib.ListN.{length}
use Rattle.lists.proofs.Tests.{Passed}
use Rattle.cellbytes.specs.CellBytes.{numbers}
use Rattle.pointtests.specs.PointTests.{cell_passes, all_cells}
use Rattle.pointtests.proofs.tests.bytes_pass.Given as goal

abbrev pub invariant-loop-cell : goal.invariant-loop-cell
invariant-loop-cell l = Passed (cell_passes (all_cells l.fn.c l.blank) (numbers l.cells)) (length l.cells) l.cell-index l.passed
