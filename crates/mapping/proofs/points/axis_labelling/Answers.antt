-- `axis_labelling` meets its contract: each labelling was tested. Assumes nothing.
use Rattle.mapping.specs.declared.points.Labelling.{Labelling}
use Rattle.mapping.specs.Labellings.{Labels}
use Rattle.mapping.specs.Axes.{axis_number}
use Rattle.mapping.proofs.Coordinates.{number_low, axis_holds}
use Rattle.mapping.proofs.Labellings.{labels4, labels16, labels_standard, labels_symmetric}
use Rattle.mapping.proofs.points.axis_labelling.Goals as goal

pub returns : goal.returns
returns c =
    rw c.of_axis.ensures
    (axis_holds (λ (l : Labelling) v. Labels l.size l.twice l.odd v) c.args.c (axis_number c.args.a) (number_low c.args.a) _ _ _ _ labels4 labels16 labels_standard labels_symmetric)
