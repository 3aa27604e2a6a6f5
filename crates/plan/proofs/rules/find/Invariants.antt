-- What the rules from k on say of the minute.
use Rattle.plan.specs.Rules.{rules_of}
use Rattle.plan.proofs.Loops.{Asked}
use Rattle.plan.proofs.rules.find.Given as goal

abbrev pub invariant-loop-k : goal.invariant-loop-k
invariant-loop-k l = Asked (rules_of l.rules) l.minute l.k l.found
