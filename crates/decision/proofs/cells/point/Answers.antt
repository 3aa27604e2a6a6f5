-- `point` meets its contract. Assumes nothing.
use mathlib.Core.Path.{◌∙◌}
use mir.Syntax.{w16}
use mir.Facts.{to_z-of_z}
use borrow.Author.Rules.{sfits_of}
use Rattle.decision.specs.Cells.{point_on}
use Rattle.decision.proofs.Finite.{pair_finite}
use Rattle.decision.proofs.cells.point.Goals as goal

pub decide_axis-requires : goal.decide_axis-requires
decide_axis-requires c =
    let s = c in
    record {
      finite = rw c.value_on.ensures (pair_finite _ s.args.m (rw c.in-Pair.is at s.requires.passed));
    }

pub returns-in-Pair : goal.returns-in-Pair
unfolding point_on
returns-in-Pair c =
    let s = c in
    rw c.in-Pair.is
    (to_z-of_z {w = w16} (sfits_of {w = w16} c.decide_axis.type_inv) ∙ rw c.value_on.ensures at (c.decide_axis.ensures.point s.args.m))

pub returns-in-Fade : goal.returns-in-Fade
unfolding point_on
returns-in-Fade c = rw c.in-Fade.is
