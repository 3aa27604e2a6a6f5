use Rattle.lists.specs.Bytes.{bytes_for}
use Rattle.partlengths.specs.Formulas.{round_up}
use Rattle.settings.proofs.answers.bytes_for.Goals as goal

pub returns : goal.returns
unfolding bytes_for round_up
returns c = c.round_up.ensures
