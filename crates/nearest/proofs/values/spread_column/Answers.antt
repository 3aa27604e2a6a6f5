-- `spread_column` meets its contract. Assumes nothing.
use mathlib.Core.Path.{refl}
use borrow.Author.Rules.{rules}
use Rattle.nearest.proofs.Spreading.{column_turn, column_done}
use Rattle.nearest.proofs.values.spread_column.Goals as goal

pub loop-i-preserved : goal.loop-i-preserved
loop-i-preserved c = column_turn c.loop-i.invariant (search rules) c.value_or.ensures refl refl

pub returns : goal.returns
returns c = column_done c.loop-i.invariant (search rules)
