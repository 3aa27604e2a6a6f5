use Prim.Native.Nat.{◌-◌}
use mathlib.Core.Path.{◌≡◌}
use Rattle.lists.specs.Lists.{table}
use Rattle.plan.specs.Rules.{rules_of}
use Rattle.plan.specs.Answers.{first_number}
use Rattle.plan.proofs.Loops.{asked_number}
use Rattle.plan.proofs.refusals.check_settings.Given as goal

-- no rule before rule k is at fault
abbrev pub invariant-loop-k : goal.invariant-loop-k
invariant-loop-k l = first_number (table (asked_number (rules_of l.rules)) l.k (l.k-end - l.k)) ≡ first_number (table (asked_number (rules_of l.rules)) 0 l.k-end)
