use mathlib.Core.Path.{sym}
use Rattle.plan.proofs.Bytes.{rules_long}
use Rattle.plan.proofs.rules.count.Goals as goal

pub returns : goal.returns
returns c = sym (rules_long _)
