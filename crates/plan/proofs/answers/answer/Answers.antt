use Rattle.std.proofs.Common.{◌/◌, sym, ap, ap₂, ◌∙◌, rules, arith}
use Rattle.plan.specs.declared.Found.{Found}
use Rattle.plan.specs.Rules.{minute_frames, rules_of, place_of}
use Rattle.plan.specs.Answers.{accepted}
use Rattle.plan.specs.Clauses.{found_in}
use Rattle.plan.proofs.Minutes.{place-has}
use Rattle.plan.proofs.Chain.{good}
use Rattle.plan.proofs.WeekPlans.{minute_covered, minute_week, answered}
use Rattle.plan.proofs.answers.answer.Goals as goal

pub overflow_cast-t : goal.overflow_cast-t
overflow_cast-t c = let h = (good (rules_of c.args.rules.now) _ (sym c.in_ok-check.ensures)).week in search rules

pub overflow_cast-result : goal.overflow_cast-result
unfolding found_in
overflow_cast-result c =
    let plan = rules_of c.args.rules.now in
    let g = good plan c.args.t (sym c.in_ok-check.ensures) in
    let p = (place-has plan (c.args.t / minute_frames) (minute_covered plan g.covered _ (omega (arith, g.week)))).0 in
    omega (arith, p, g.few, ap (λ (f : Found). f.place) c.find-found.ensures)

pub mark-requires : goal.mark-requires
mark-requires c =
    let g = good (rules_of c.args.rules.now) _ (sym c.in_ok-check.ensures) in
    record { covered = record { all = g.covered }; t_bound = g.week }

pub returns : goal.returns
unfolding accepted found_in
returns c =
    let plan = rules_of c.args.rules.now in
    let z = sym c.in_ok-check.ensures in
    ap₂ (λ p m. record { refusal = 0; place = p; mark = m })
    (ap (λ (f : Found). f.place) c.find-found.ensures ∙ ap (place_of plan) (sym (minute_week c.args.t (good plan c.args.t z).week)))
    c.mark.ensures
    ∙ sym (answered plan c.args.t z)
