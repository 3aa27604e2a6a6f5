use Rattle.kinds.specs.References.{spacing}
use Rattle.kinds.proofs.tables.spacing.Goals as goal

pub returns : goal.returns
unfolding spacing
returns c = c.gain_references.ensures.spacing
