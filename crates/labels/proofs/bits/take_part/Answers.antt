-- `bits::take_part` meets its contract: bits as they are, and interleaved ones. Assumes nothing.
use Rattle.labels.proofs.Mixing.{unmixed_plain}
use Rattle.labels.proofs.Ordering.{scatters_part, taken-part}
use Rattle.labels.proofs.bits.take_part.Goals as goal

pub returns-then-t-eq0 : goal.returns-then-t-eq0
returns-then-t-eq0 c = rw (unmixed_plain _ _ c.if-t-eq0.true) c.take_plain.ensures

pub scatter-requires : goal.scatter-requires
scatter-requires c = scatters_part c.requires.0 c.requires.1 c.if-t-eq0.false

pub returns : goal.returns
returns c = taken-part c.requires.0 c.requires.1 c.if-t-eq0.false c.scatter.ensures
