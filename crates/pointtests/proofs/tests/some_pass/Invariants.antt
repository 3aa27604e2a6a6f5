-- `some_pass` meets its contract. Assumes nothing.
use Prim.Native.Nat.{◌/◌, ◌%◌}
use mathlib.Core.Path.{◌≡◌}
use lib.ListN.{length}
use Rattle.lists.proofs.Tests.{Passed}
use Rattle.pointtests.specs.PointTests.{cell_passes}
use Rattle.pointtests.proofs.tests.some_pass.Given as goal

abbrev pub invariant-loop-i : goal.invariant-loop-i
invariant-loop-i l = Passed (cell_passes l.test l.cells) (length l.cells / 2) l.i l.passed × (l.delay ≡ l.i % l.test.depth)
