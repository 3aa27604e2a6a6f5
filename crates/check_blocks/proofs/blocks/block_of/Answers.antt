-- `block_of` meets its contract. Assumes nothing.
use Rattle.std.proofs.Common.{◌≡◌}
use Rattle.settings.specs.declared.Settings.{Settings}
use Rattle.settings.specs.Accepted.{Accepted}
use Rattle.channels.specs.declared.Scheme.{Scheme}
use Rattle.channels.specs.Scheme.{SchemeAccepted, standard_scheme}
use Rattle.channels.proofs.Schemes.{standard-accepted}
use Rattle.check_blocks.proofs.blocks.block_of.Goals as goal

-- the scheme is accepted
accepted : {s : Settings} {x : Scheme} → Accepted s → x ≡ standard_scheme s → SchemeAccepted x
accepted p e = rw e (standard-accepted p)

pub fac_block-requires : goal.fac_block-requires
fac_block-requires c = (accepted c.requires c.standard_scheme-scheme.ensures).table

pub sdc_block-requires : goal.sdc_block-requires
sdc_block-requires c = accepted c.requires c.standard_scheme-scheme.ensures

pub msc_block-requires : goal.msc_block-requires
msc_block-requires c = accepted c.requires c.standard_scheme-scheme.ensures
