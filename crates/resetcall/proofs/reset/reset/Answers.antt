-- `reset::reset` meets its contract. Assumes nothing.
use mathlib.Core.Path.{◌∙◌}
use Rattle.channels.specs.Scheme.{standard_scheme}
use Rattle.resetcall.proofs.reset.reset.Goals as goal

pub returns : goal.returns
unfolding standard_scheme
returns c = λ old. c.reset_table.ensures old ∙ rw c.standard_table.ensures
