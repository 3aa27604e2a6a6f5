use Rattle.std.proofs.Common.{refl, ap, ap₂, ◌∙◌, ◌*◌, get_or}
use Rattle.plan.specs.declared.Rule.{Rule}
use Rattle.plan.specs.Rules.{minute_frames, rules_of, no_rule}
use Rattle.plan.specs.Answers.{Answered, answer_of}
use Rattle.planjobs.specs.Week.{printing, closing_text, stretch_text, stretch_rule, closing_frame, stretch_printed}
use Rattle.planjobs.specs.Clauses.{stretch_said}
use Rattle.planjobs.proofs.Printing.{stretch_refused, printed_line}
use Rattle.planjobs.proofs.Stretches.{stretch_covered, stretch_there, after-some, after_low}
use Rattle.planjobs.proofs.week.stretch_line.Goals as goal

pub returns-in_err-a : goal.returns-in_err-a
unfolding stretch_printed
returns-in_err-a c = λ out. stretch_refused c.in_err-a.field-0.0 _ _ out c.in_err-a.ensures _ c.from_residual.ensures.1

pub rule_at-next-requires : goal.rule_at-next-requires
rule_at-next-requires c = stretch_there _ _ _ c.in_ok-a.ensures refl

pub closing_frame-closing-requires : goal.closing_frame-closing-requires
closing_frame-closing-requires c =
    let b = c.args.rules.now in
    let e = c.in_ok-a.ensures in
    record { covered = stretch_covered b _ _ e refl; le_after = after-some b _ _ e refl c.rule_at-next.result c.rule_at-next.ensures; after_bound = after_low b _ _ e refl c.rule_at-next.result c.rule_at-next.ensures }

pub returns : goal.returns
unfolding stretch_printed stretch_rule stretch_text
returns c = λ out.
    let plan = rules_of c.args.rules.now in
    let frame = minute_frames * c.args.minute in
    let e = c.in_ok-a.ensures in
    let r = ap (λ (r : Rule). r.after) (c.rule_at-next.ensures ∙ ap (λ (a : Answered). get_or plan a.place no_rule) e) in
    let t = c.stretch_text-line.ensures ∙ ap₂ (stretch_said frame) (ap (λ (a : Answered). a.place) e) (c.closing_frame-closing.ensures ∙ ap (λ m. closing_text (closing_frame plan m)) r) in
    ap₂ (λ n l. printing n l out) r t ∙ printed_line (answer_of plan frame) _ _ (ap (λ (a : Answered). a.refusal) e)
