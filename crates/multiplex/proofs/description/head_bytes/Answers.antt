-- `head_bytes` meets its contract. Assumes nothing.
use mathlib.Core.Path.{sym, ◌∙◌}
use native.Mathlib.Omega.{arith}
use Rattle.multiplex.specs.Description.{head_bytes}
use Rattle.multiplex.proofs.Layouts.{two-numbers}
use Rattle.multiplex.proofs.description.head_bytes.Goals as goal

pub returns-then-hierarchical : goal.returns-then-hierarchical
unfolding head_bytes
returns-then-hierarchical c = rw (sym c.hierarchical.ensures ∙ c.if-hierarchical.true)

pub returns : goal.returns
unfolding head_bytes
returns c = rw (sym c.hierarchical.ensures ∙ c.if-hierarchical.false)

pub bounds-description-1 : goal.bounds-description-1
bounds-description-1 c = omega (arith, two-numbers _ c.requires)
