-- `axis_label` meets its contract. Assumes nothing.
use mathlib.Core.Path.{◌≡◌, ◌∙◌}
use native.Mathlib.Omega.{arith}
use Rattle.mapping.specs.Axes.{axis_number}
use Rattle.mapping.proofs.Labels.{number_read}
use Rattle.mapping.proofs.points.axis_label.Goals as goal

pub returns : goal.returns
returns c =
    let s = c in
    let e : axis_number c.axis_of.result ≡ s.args.a = c.axis_of.ensures ∙ omega (arith, s.requires) in
    number_read s.args.c s.args.a s.requires s.args.v _ _ s.ranges.v (rw e at c.axis_labels.ensures) c.label_of.ensures
