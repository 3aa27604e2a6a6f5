-- `restore` meets its contract. Assumes nothing.
use Rattle.std.proofs.Common.{◌∙◌}
use Rattle.channels.specs.Scheme.{standard_scheme}
use Rattle.holdcalls.proofs.restore.restore.Goals as goal

pub returns : goal.returns
unfolding standard_scheme
returns c = λ old. c.restore_table.ensures old ∙ rw c.standard_table.ensures
