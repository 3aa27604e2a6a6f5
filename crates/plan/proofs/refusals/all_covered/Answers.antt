use Rattle.plan.specs.Rules.{rules_of}
use Rattle.plan.proofs.Minutes.{ends_some, ends_none}
use Rattle.plan.proofs.refusals.all_covered.Goals as goal

pub returns-then-find-gt0 : goal.returns-then-find-gt0
returns-then-find-gt0 c = ends_some (rules_of c.args.rules.now) _ _ c.find.ensures c.if-find-gt0.true c.afters_covered.ensures

pub returns-else-find-gt0 : goal.returns-else-find-gt0
returns-else-find-gt0 c = ends_none (rules_of c.args.rules.now) _ c.find.ensures c.if-find-gt0.false
