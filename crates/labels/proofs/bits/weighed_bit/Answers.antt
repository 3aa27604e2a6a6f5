-- `interleaver::weighed_bit` meets its contract. Assumes nothing.
use Rattle.labels.proofs.Weights.{weighed-zero, weighed-one}
use Rattle.labels.proofs.bits.weighed_bit.Goals as goal

pub returns-then-label-weight-eq0 : goal.returns-then-label-weight-eq0
returns-then-label-weight-eq0 c = weighed-zero _ _ c.requires c.if-label-weight-eq0.true

pub returns-else-label-weight-eq0 : goal.returns-else-label-weight-eq0
returns-else-label-weight-eq0 c = weighed-one _ _ c.requires c.if-label-weight-eq0.false
