use mathlib.Core.Path.{ap, ◌∙◌}
use lib.ListN.{get_or}
use Rattle.plan.specs.declared.Rule.{Rule}
use Rattle.plan.specs.declared.Found.{Found}
use Rattle.plan.specs.Rules.{rules_of, no_rule, minute_of, settings_at}
use Rattle.plan.specs.Clauses.{found_in}
use Rattle.plan.proofs.Minutes.{place-has}
use Rattle.plan.proofs.WeekPlans.{minute_covered, minute_low}
use Rattle.plan.proofs.marks.settings_at.Goals as goal

pub rule_at-requires : goal.rule_at-requires
unfolding found_in minute_of
rule_at-requires c =
    let plan = rules_of c.week.inside.rules.now in
    rw c.find-place.ensures (place-has plan (minute_of c.args.t) (minute_covered plan c.week.invariant.all _ (minute_low c.args.t))).0

pub returns : goal.returns
unfolding settings_at found_in minute_of
returns c =
    let plan = rules_of c.week.inside.rules.now in
    ap (λ (r : Rule). r.settings) (c.rule_at.ensures ∙ ap (λ (f : Found). get_or plan f.place no_rule) c.find-place.ensures)
    ∙ ap (λ p. settings_at p c.args.t) c.week.view_is
