-- `axis_labels` meets its contract: each labelling is computed. Assumes nothing.
use mathlib.Core.Path.{◌≡◌, refl, ◌∙◌}
use Rattle.lists.specs.Lists.{table}
use Rattle.block.specs.Mapping.{coordinate, qam4, qam16, standard64, symmetric64}
use Rattle.lists.specs.Same.{same_number}
use Rattle.cellbytes.specs.CellBytes.{signed}
use Rattle.cellbytes.specs.TwosComplement.{twos_complement}
use Rattle.block.specs.Reading.{place_of}
use Rattle.mapping.specs.Clauses.{labels_by}
use Rattle.mapping.specs.Axes.{axis_number}
use Rattle.mapping.proofs.Coordinates.{number_low, axis_holds}
use Rattle.mapping.proofs.points.axis_labels.Goals as goal

pub returns : goal.returns
unfolding table coordinate qam4 qam16 standard64 symmetric64 labels_by place_of same_number signed twos_complement
returns c = c.of_axis.ensures ∙ axis_holds (λ l v. l ≡ labels_by v) c.args.c (axis_number c.args.a) (number_low c.args.a) _ _ _ _ refl refl refl refl
