use Rattle.std.proofs.Common.{ap, ◌∙◌}
use Rattle.plan.specs.Rules.{rules_of}
use Rattle.plan.specs.Answers.{Answered, answer_of}
use Rattle.planjobs.specs.Week.{answer_text, printing, answer_printed}
use Rattle.planjobs.proofs.Printing.{line_refused, printed_line}
use Rattle.planjobs.proofs.week.answer_line.Goals as goal

pub returns-in_err-answer : goal.returns-in_err-answer
unfolding answer_printed
returns-in_err-answer c = λ out. line_refused c.in_err-answer.field-0.0 _ _ out c.in_err-answer.ensures _ c.from_residual.ensures.1

pub returns : goal.returns
unfolding answer_printed
returns c = λ out.
    let e = c.in_ok-answer.ensures in
    let t = c.answer_text.ensures ∙ ap (λ (a : Answered). answer_text a.place a.mark) e in
    ap (λ l. printing 0 l out) t ∙ printed_line (answer_of (rules_of c.args.rules.now) c.args.t) _ _ (ap (λ (a : Answered). a.refusal) e)
