use mathlib.Core.Path.{sym}
use Rattle.channels.specs.Scheme.{scheme_of}
use Rattle.channels.proofs.Schemes.{scheme-accepted}
use Rattle.callrefusals.proofs.refusals.accepted_sizes.Goals as goal

pub all_sizes-requires : goal.all_sizes-requires
all_sizes-requires c = (scheme-accepted (scheme_of _ _) (sym c.in_ok-check_table.ensures)).settings
