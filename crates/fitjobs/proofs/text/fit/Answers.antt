use mathlib.Core.Path.{refl}
use Rattle.words.proofs.Answers.{passed_on, no_refusal_zero}
use Rattle.fitjobs.proofs.Fitted.{no_word, no_count, fit-bad, fit_refused, fit-through}
use Rattle.fitjobs.proofs.text.fit.Goals as goal

pub returns-then-not-word : goal.returns-then-not-word
returns-then-not-word c = λ out. fit-bad c.args.s _ out (no_word _ c.if-not-word.true)

pub returns-in_default : goal.returns-in_default
returns-in_default c = λ out. fit-bad c.args.s _ out (no_count _ c.in_default.ensures)

pub returns-in_err-how_long : goal.returns-in_err-how_long
returns-in_err-how_long c = λ out.
    let q = c.in_err-how_long.field-0.0 in
    let made = fit_refused c.args.s _ out _ _ _ c.if-not-word.false c.in-Some.ensures c.in_err-how_long.ensures (no_refusal_zero q) in
    passed_on q _ out c.from_residual.ensures.1 made

pub returns : goal.returns
returns c = λ out.
    fit-through c.args.s _ out _ _ _ c.if-not-word.false c.in-Some.ensures c.in_ok-how_long.ensures refl _ c.fit_text.ensures
