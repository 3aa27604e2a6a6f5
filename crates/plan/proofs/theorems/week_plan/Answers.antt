-- `plan::theorems::week_plan` meets its contract: theorem 1 holds of the definitions.
use Rattle.plan.proofs.WeekPlans.{week_plan}
use Rattle.plan.proofs.theorems.week_plan.Goals as goal

pub returns : goal.returns
returns c = week_plan
