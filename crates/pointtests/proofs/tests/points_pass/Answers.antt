-- `points_pass` meets its contract. Assumes nothing.
use mathlib.Core.Path.{◌∙◌}
use borrow.Author.Rules.{rules}
use Rattle.pointtests.proofs.PointTests.{all_reached}
use Rattle.pointtests.proofs.tests.points_pass.Goals as goal

pub returns-then-test : goal.returns-then-test
returns-then-test c =
    let a = c.args in
    c.all_pass.ensures ∙ all_reached a.test a.cells.now (search rules) (search rules)
