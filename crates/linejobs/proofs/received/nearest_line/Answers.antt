use Rattle.words.proofs.Answers.{no_refusal_zero}
use Rattle.linejobs.proofs.Found.{line_bad}
use Rattle.linejobs.proofs.received.nearest_line.Goals as goal

pub returns-in_default-fac_nearest : goal.returns-in_default-fac_nearest
returns-in_default-fac_nearest c = λ out. line_bad _ out _ _ _ _ c.if-line-ne-FAC_NUMBERS.false c.in-Some.ensures.some c.in_default-fac_nearest.ensures (no_refusal_zero c.in_default-fac_nearest.field-0)
