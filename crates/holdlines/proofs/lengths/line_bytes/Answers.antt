-- `line_bytes` meets its contract. Assumes nothing.
use Rattle.holdlines.proofs.LineLengths.{old_line, new_line}
use Rattle.holdlines.proofs.lengths.line_bytes.Goals as goal

pub returns-in-Old : goal.returns-in-Old
returns-in-Old c = old_line _ _ c.in-Old.is

pub returns-in-New : goal.returns-in-New
returns-in-New c = new_line _ _ c.in-New.is
