-- `gain_references` meets its contract. Assumes nothing.
use Rattle.kinds.proofs.Bands.{mode_low, row_is}
use Rattle.kinds.proofs.tables.gain_references.Goals as goal

pub returns : goal.returns
returns c = rw c.number.ensures.value (row_is _ _ (mode_low c.args.mode))
