-- `superframe::theorems::whole_runs` meets its contract: demand 3 holds of the definitions.
use Rattle.superframe.proofs.Accepted.{whole_runs}
use Rattle.superframe.proofs.theorems.whole_runs.Goals as goal

pub returns : goal.returns
returns c = whole_runs
