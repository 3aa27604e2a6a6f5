-- `zero_after` meets its contract. Assumes nothing.
use Rattle.multiplex.proofs.FrameBits.{zero-found}
use Rattle.multiplex.proofs.bits.zero_after.Goals as goal

pub returns : goal.returns
returns c = zero-found _ _ c.all_zero-first.ensures c.all_zero-second.ensures
