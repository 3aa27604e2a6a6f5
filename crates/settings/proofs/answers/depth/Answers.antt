use borrow.Author.Tests.{eq-eqb, ne_eqb}
use Rattle.settings.specs.Sizes.{depth}
use Rattle.settings.proofs.answers.depth.Goals as goal

pub returns-then-s-eq0 : goal.returns-then-s-eq0
unfolding depth
returns-then-s-eq0 c = rw (eq-eqb _ _ c.if-s-eq0.true)

pub returns-else-s-eq0 : goal.returns-else-s-eq0
unfolding depth
returns-else-s-eq0 c = rw (ne_eqb _ _ c.if-s-eq0.false)
