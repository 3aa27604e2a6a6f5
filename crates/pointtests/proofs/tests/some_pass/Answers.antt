-- `some_pass` meets its contract. Assumes nothing.
use borrow.Author.Rules.{rules}
use Rattle.lists.proofs.Tests.{passed_turn, passed_end}
use Rattle.pointtests.specs.PointTests.{points_pass}
use Rattle.pointtests.proofs.PointTests.{cell_read, delay-next}
use Rattle.pointtests.proofs.tests.some_pass.Goals as goal

pub loop-i-preserved : goal.loop-i-preserved
loop-i-preserved c =
    let l = c in
    let start = l in (
      passed_turn _ _ _ _ _ (search rules)
          (cell_read start.args.test _ l.loop-i.i _ _ _ l.mask_of-mask.ensures l.loop-i.invariant.1 c.cell_passes.ensures)
          l.loop-i.invariant.0,
      delay-next _ _ _ _ l.loop-i.invariant.1 c.next_modulo-delay.ensures,
    )

pub returns : goal.returns
unfolding points_pass
returns c = passed_end _ _ _ _ c.loop-i-test.false c.loop-i.invariant.0
