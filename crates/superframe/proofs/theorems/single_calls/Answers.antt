-- `superframe::theorems::single_calls` meets its contract: demand 2 holds of the definitions.
use Rattle.superframe.proofs.Accepted.{single_calls}
use Rattle.superframe.proofs.theorems.single_calls.Goals as goal

pub returns : goal.returns
returns c = single_calls
