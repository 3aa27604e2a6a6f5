-- `on_runs` meets its contract. Assumes nothing.
use Rattle.superframe.proofs.Accepted.{coding}
use Rattle.readonruns.proofs.OnRuns.{on_runs_of}
use Rattle.readonruns.proofs.on_runs.Goals as goal

pub returns : goal.returns
returns c = on_runs_of coding
