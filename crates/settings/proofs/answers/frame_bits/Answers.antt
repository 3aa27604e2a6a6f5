-- `frame_bits` meets its contract. Assumes nothing.
use Rattle.settings.proofs.Buffers.{frame_of_lem}
use Rattle.settings.proofs.answers.frame_bits.Goals as goal

pub returns : goal.returns
returns c = frame_of_lem _ _ c.all_lengths-l.ensures
