use Rattle.std.proofs.Common.{◌≡◌, min, length, sym, ◌∙◌, rules, arith}
use Rattle.refusal.specs.Numbers.{number}
use Rattle.refusal.proofs.Positive.{number_positive}
use Rattle.plan.specs.Rules.{most_rules, rules_of}
use Rattle.plan.specs.Answers.{settings_refusal}
use Rattle.plan.proofs.Loops.{asked_is, asked_all, none_turn, none_stop, none_end}
use Rattle.plan.proofs.refusals.check_settings.Goals as goal

pub loop-k-preserved : goal.loop-k-preserved
loop-k-preserved c =
    let plan = rules_of c.args.rules.now in
    none_turn _ _ _ c.loop-k-test.true
    (sym (asked_is plan _ (rw (← c.count.ensures) c.min-k-end.ensures) _ _ c.loop-k-test.true c.rule_at.ensures) ∙ sym c.in_ok-check.ensures)
    c.loop-k.invariant

pub returns-in_err-check : goal.returns-in_err-check
returns-in_err-check c =
    let plan = rules_of c.args.rules.now in
    let e : c.min-k-end.result ≡ min (length plan) most_rules = rw (← c.count.ensures) c.min-k-end.ensures in
    let r = c.in_err-check.field-0.0 in
    let f = c.in_err-check.ensures ∙ asked_is plan _ e _ _ c.loop-k-test.true c.rule_at.ensures in
    let h : number r ≡ settings_refusal plan = f ∙ none_stop _ _ _ c.loop-k-test.true (omega (arith, f, number_positive r)) c.loop-k.invariant ∙ asked_all plan _ e in
    search rules

pub returns : goal.returns
returns c =
    let plan = rules_of c.args.rules.now in
    none_end _ _ _ c.loop-k-test.false c.loop-k.invariant ∙ asked_all plan _ (rw (← c.count.ensures) c.min-k-end.ensures)
