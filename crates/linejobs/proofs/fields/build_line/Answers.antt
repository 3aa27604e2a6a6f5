use Rattle.words.proofs.Answers.{passed_on, no_refusal_zero}
use Rattle.linejobs.proofs.Answered.{build_refused}
use Rattle.linejobs.proofs.fields.build_line.Goals as goal

pub returns-in_err-build : goal.returns-in_err-build
returns-in_err-build c = λ out.
    let q = c.in_err-build.field-0.0 in
    let made = build_refused c.args.s _ out _ _ _ c.if-line-ge256.false c.in-Some.ensures c.in_err-build.ensures (no_refusal_zero q) in
    passed_on q _ out c.from_residual.ensures.1 made
