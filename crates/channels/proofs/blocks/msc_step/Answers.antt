-- The code's table is the definition's, five places a row.
use Rattle.channels.proofs.Made.{step_at}
use Rattle.channels.proofs.blocks.msc_step.Goals as goal

pub returns : goal.returns
returns c = step_at c.args.msc c.args.k
