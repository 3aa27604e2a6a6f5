use Rattle.std.proofs.Common.{◌∙◌}
use Rattle.holdbytes.proofs.restores.restore_standard.Goals as goal

pub returns : goal.returns
returns c = c.restore_bytes.ensures ∙ rw c.standard_table.ensures
