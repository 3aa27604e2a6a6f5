-- `all_pass` meets its contract. Assumes nothing.
use mathlib.Core.Path.{sym}
use native.Mathlib.Nat.{mod-one}
use borrow.Author.Rules.{rules}
use Rattle.lists.proofs.Tests.{passed_turn, passed_end}
use Rattle.pointtests.specs.PointTests.{points_pass, all_cells}
use Rattle.pointtests.proofs.PointTests.{cell_read}
use Rattle.pointtests.proofs.tests.all_pass.Goals as goal

pub loop-i-preserved : goal.loop-i-preserved
loop-i-preserved c =
    let l = c in
    let a = l.args in
    passed_turn _ _ _ _ _ (search rules)
    (cell_read (all_cells a.c a.blank) _ l.loop-i.i 0 _ _ l.mask_of-mask.ensures (sym (mod-one _)) c.cell_passes-passed.ensures)
    l.loop-i.invariant

pub returns : goal.returns
unfolding points_pass
returns c = passed_end _ _ _ _ c.loop-i-test.false c.loop-i.invariant
