-- `refused` meets its contract. Assumes nothing.
use mathlib.Core.Path.{◌∙◌}
use lib.Ieee.{of_bits}
use Rattle.decision.specs.Cells.{refused_cell}
use Rattle.decision.proofs.Finite.{finite_same}
use Rattle.decision.proofs.cells.refused.Goals as goal

pub returns-in-Pair : goal.returns-in-Pair
unfolding refused_cell
returns-in-Pair c = rw (c.in-Pair.is, c.finite.ensures ∙ finite_same _, c.finite-in-Pair.ensures ∙ finite_same _)

pub returns-in-Fade : goal.returns-in-Fade
unfolding refused_cell of_bits
returns-in-Fade c = rw (c.in-Fade.is, c.finite-in-Fade.ensures ∙ finite_same _)
