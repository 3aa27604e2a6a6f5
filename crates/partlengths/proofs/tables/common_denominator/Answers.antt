-- The code's table is the definition's, its last row filled up.
use mathlib.Core.Path.{◌∙◌}
use Rattle.partlengths.proofs.Levels.{denominators-filled}
use Rattle.partlengths.proofs.tables.common_denominator.Goals as goal

pub returns : goal.returns
returns c = c.entry.ensures ∙ denominators-filled c.args.msc c.args.level
