-- `decide_points` meets its contract. Assumes nothing.
use native.Mathlib.Omega.{arith}
use mathlib.Core.Path.{◌≡◌, ◌∙◌}
use mir.Syntax.{w16}
use mir.Val.{to_z, of_z}
use mir.Facts.{to_z-of_z}
use borrow.Author.Rules.{rules, sfits_of}
use lib.IntN.{pos}
use Rattle.lists.proofs.Tables.{filled_turn}
use Rattle.measured.specs.Calls.{point_at}
use Rattle.measured.proofs.Accepts.{cell_passed, points_done}
use Rattle.measured.proofs.calls.decide_points.Goals as goal

pub point-requires : goal.point-requires
point-requires c =
    let p = c.requires in
    record {
      passed = cell_passed _ _ _ _ p.passed (omega (arith, p.room, c.loop-m-test.true, c.loop-m.invariant.0.long)) c.cell_at.ensures;
    }

pub loop-m-preserved : goal.loop-m-preserved
unfolding point_at
loop-m-preserved c =
    let l = c in
    let e : to_z w16 (of_z w16 c.point.result) ≡ c.point.result = to_z-of_z {w = w16} (sfits_of {w = w16} c.point.type_inv) in (
      filled_turn (pos 0) _ _ l.loop-m.points l.loop-m.m _ (search rules) (e ∙ rw c.cell_at.ensures at c.point.ensures) l.loop-m.invariant.0,
      search rules,
    )

pub returns : goal.returns
returns c =
    let l = c in
    points_done _ _ _ _ _ _ l.requires.room l.loop-m.invariant.1 (omega (arith, l.loop-m.invariant.0.long, c.loop-m-test.false)) l.loop-m.invariant.0
