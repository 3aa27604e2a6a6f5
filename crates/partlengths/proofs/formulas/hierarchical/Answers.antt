use borrow.Author.Tests.{eq-eqb, ne_eqb}
use Rattle.partlengths.specs.Formulas.{hierarchical}
use Rattle.partlengths.proofs.formulas.hierarchical.Goals as goal

pub returns-then-msc-eq1 : goal.returns-then-msc-eq1
unfolding hierarchical
returns-then-msc-eq1 c = rw (eq-eqb _ _ c.if-msc-eq1.true)

pub returns-else-msc-eq1 : goal.returns-else-msc-eq1
unfolding hierarchical
returns-else-msc-eq1 c = rw (ne_eqb _ _ c.if-msc-eq1.false)
