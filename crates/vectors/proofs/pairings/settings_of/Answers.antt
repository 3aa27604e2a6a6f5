use Rattle.std.proofs.Common.{◌%◌}
use Rattle.vectors.specs.Pairings.{settings_of}
use Rattle.vectors.proofs.Paired.{paired-mode, paired-occupancy}
use Rattle.vectors.proofs.pairings.settings_of.Goals as goal

pub returns : goal.returns
unfolding settings_of
returns c = rw (paired-mode (c.args.p % 16), paired-occupancy (c.args.p % 16))
