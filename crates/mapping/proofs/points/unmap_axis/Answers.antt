-- `unmap_axis` meets its contract. Assumes nothing.
use mathlib.Core.Path.{◌≡◌, ◌∙◌}
use native.Mathlib.Omega.{arith}
use borrow.Author.Rules.{rules, sfits_of}
use mir.Syntax.{w16}
use Rattle.mapping.specs.Axes.{axis_number}
use Rattle.mapping.proofs.Labels.{number_read, axis_turn, axis_done}
use Rattle.mapping.proofs.points.unmap_axis.Goals as goal

pub loop-k-preserved : goal.loop-k-preserved
loop-k-preserved c =
    let s = c in
    let e : axis_number c.axis_of.result ≡ s.args.a = c.axis_of.ensures ∙ omega (arith, s.requires.axis) in
    axis_turn c.loop-k.invariant s.requires.axis (search rules) s.requires.same _
    (number_read s.args.c s.args.a s.requires.axis _ _ _ (sfits_of {w = w16} c.label_of-arg-1.given) (rw e at c.axis_labels-labels.ensures) c.label_of.ensures)

pub returns : goal.returns
returns c = axis_done c.loop-k.invariant (search rules) c.requires.same
