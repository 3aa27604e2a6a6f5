use Rattle.channels.specs.Sdc.{sdc_constellation}
use Rattle.channels.proofs.Made.{four_else}
use Rattle.channels.proofs.blocks.sdc_constellation.Goals as goal

pub returns-then-sdc-eq0 : goal.returns-then-sdc-eq0
unfolding sdc_constellation
returns-then-sdc-eq0 c = rw c.if-sdc-eq0.true

pub returns : goal.returns
unfolding sdc_constellation
returns c = four_else _ c.if-sdc-eq0.false
