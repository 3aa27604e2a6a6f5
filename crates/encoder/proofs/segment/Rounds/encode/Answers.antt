-- `Rounds::encode` meets its contract. Assumes nothing.
use Rattle.encoder.proofs.Rounds.{rounds_done}
use Rattle.encoder.proofs.segment.Rounds.encode.Goals as goal

pub returns : goal.returns
returns c =
    let b = c in
    rounds_done b.requires.0 _ b.buffer-registers.ensures.long c.registers_of.ensures
    c.lay_columns.ensures
