-- `theorems::held_runs` meets its contract: S-7 of runs holds of the definitions.
use Rattle.holdcalls.proofs.RunsOn.{held_runs}
use Rattle.holdcalls.proofs.theorems.held_runs.Goals as goal

pub returns : goal.returns
returns c = held_runs
