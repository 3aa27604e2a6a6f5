-- `multiplex` meets its contract. Assumes nothing.
use Rattle.multiplex.proofs.RoundTrip.{multiplex}
use Rattle.multiplex.proofs.theorems.multiplex.Goals as goal

pub returns : goal.returns
returns c = multiplex
