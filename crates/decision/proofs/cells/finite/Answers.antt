-- `finite` meets its contract. Assumes nothing.
use lib.Ieee.{of_bits}
use Rattle.decision.proofs.Finite.{between_infinities}
use Rattle.decision.proofs.cells.finite.Goals as goal

pub returns : goal.returns
unfolding of_bits
returns c = between_infinities c.args.x
