use mathlib.Core.Path.{sym, ◌∙◌}
use Rattle.words.proofs.Answers.{passed_on, no_refusal_zero}
use Rattle.linejobs.proofs.Answered.{read_refused}
use Rattle.linejobs.proofs.fields.read_line.Goals as goal

pub returns-in_err-read : goal.returns-in_err-read
returns-in_err-read c = λ out.
    let q = c.in_err-read.field-0.0 in
    let made = read_refused c.args.s _ out _ _ _ (sym c.are_hex.ensures ∙ c.if-not-are_hex.false) c.read_hex-block.ensures c.in_err-read.ensures (no_refusal_zero q) in
    passed_on q _ out c.from_residual.ensures.1 made
