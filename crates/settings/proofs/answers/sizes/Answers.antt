use mathlib.Core.Path.{sym}
use Rattle.settings.proofs.Bounds.{accepted_of}
use Rattle.settings.proofs.Buffers.{sizes_accept}
use Rattle.settings.proofs.answers.sizes.Goals as goal

pub all_sizes-requires : goal.all_sizes-requires
all_sizes-requires c = accepted_of _ (sym c.in_ok-check.ensures)

pub returns : goal.returns
returns c = sizes_accept _ _ c.in_ok-check.ensures c.all_sizes.ensures
