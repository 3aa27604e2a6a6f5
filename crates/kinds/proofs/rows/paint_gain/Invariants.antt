-- `kinds::paint_gain` meets its contract. The loop's invariant: the gain references before carrier k are painted. Assumes nothing.
use mathlib.Core.Path.{◌≡◌}
use Rattle.kinds.specs.References.{spacing}
use Rattle.kinds.specs.Numbered.{mode_number}
use Rattle.kinds.proofs.Gains.{Gains}
use Rattle.kinds.proofs.rows.paint_gain.Given as goal

abbrev pub invariant-loop-k : goal.invariant-loop-k
invariant-loop-k l = (l.k-step ≡ spacing (mode_number l.fn.mode)) × Gains (mode_number l.fn.mode) l.symbol l.initial.row l.row l.k
