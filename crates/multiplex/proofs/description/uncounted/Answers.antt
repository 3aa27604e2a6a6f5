-- `uncounted` meets its contract. Assumes nothing.
use mathlib.Core.Path.{sym, ◌∙◌}
use Rattle.multiplex.specs.Description.{uncounted}
use Rattle.multiplex.proofs.description.uncounted.Goals as goal

pub returns-then-hierarchical : goal.returns-then-hierarchical
unfolding uncounted
returns-then-hierarchical c = rw (sym c.hierarchical.ensures ∙ c.if-hierarchical.true)

pub returns-else-hierarchical : goal.returns-else-hierarchical
unfolding uncounted
returns-else-hierarchical c = rw (sym c.hierarchical.ensures ∙ c.if-hierarchical.false)
