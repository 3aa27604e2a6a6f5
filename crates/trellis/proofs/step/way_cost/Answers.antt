-- `way_cost` meets its contract. Assumes nothing.
use native.Mathlib.Omega.{arith}
use Rattle.trellis.proofs.Layers.{column-four}
use Rattle.trellis.proofs.step.way_cost.Goals as goal

pub overflow_add-result : goal.overflow_add-result
overflow_add-result c = omega (arith, column-four _ _ c.column_cost.ensures, c.requires.low)
