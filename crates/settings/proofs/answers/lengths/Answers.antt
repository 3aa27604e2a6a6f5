use mathlib.Core.Path.{sym}
use Rattle.settings.proofs.Bounds.{accepted_of, lengths_accept}
use Rattle.settings.proofs.answers.lengths.Goals as goal

pub all_lengths-requires : goal.all_lengths-requires
all_lengths-requires c = accepted_of _ (sym c.in_ok-check.ensures)

pub returns : goal.returns
returns c = lengths_accept _ _ c.in_ok-check.ensures c.all_lengths.ensures
