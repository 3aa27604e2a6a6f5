-- `bits::add_part` meets its contract: bits as they are, and interleaved ones. Assumes nothing.
use Rattle.labels.proofs.Mixing.{mixed_plain}
use Rattle.labels.proofs.Ordering.{gathers_part, added-part}
use Rattle.labels.proofs.bits.add_part.Goals as goal

pub returns-then-t-eq0 : goal.returns-then-t-eq0
returns-then-t-eq0 c = rw (mixed_plain _ _ c.if-t-eq0.true) c.add_plain.ensures

pub gather-requires : goal.gather-requires
gather-requires c = gathers_part c.requires.0 c.requires.1 c.if-t-eq0.false

pub returns : goal.returns
returns c = added-part c.requires.0 c.requires.1 c.if-t-eq0.false c.gather.ensures
