-- `bytes_pass` meets its contract. Assumes nothing.
use Prim.Native.Nat.{◌/◌}
use mathlib.Core.Path.{◌≡◌}
use native.Mathlib.Omega.{arith}
use borrow.Author.Rules.{rules}
use lib.ListN.{length}
use Rattle.lists.proofs.Tests.{passed_turn, passed_end}
use Rattle.cellbytes.specs.CellBytes.{numbers}
use Rattle.cellbytes.proofs.CellBytes.{length-numbers}
use Rattle.pointtests.specs.PointTests.{points_pass}
use Rattle.pointtests.proofs.ByteTests.{byte_read}
use Rattle.pointtests.proofs.tests.bytes_pass.Goals as goal

pub loop-cell-preserved : goal.loop-cell-preserved
loop-cell-preserved c =
    let l = c in
    passed_turn _ _ _ _ _ (search rules) (byte_read _ _ _ l.loop-cell.cell-index _ _ l.largest-top.ensures.reaches (search rules) c.byte_passes-passed.ensures) l.loop-cell.invariant

pub returns : goal.returns
unfolding points_pass
returns c =
    let cells = c.args.cells.now in
    let n : length (numbers cells) / 2 ≡ length cells = omega (arith, length-numbers cells) in
    rw n (passed_end _ _ _ _ c.loop-cell-test.false c.loop-cell.invariant)
