-- `standard_table` meets its contract. Assumes nothing.
use Prim.Native.Nat.{◌+◌, ◌*◌}
use Rattle.patterns.specs.Patterns.{RX, begins}
use Rattle.patterns.proofs.Standard.{Laid}
use Rattle.patterns.proofs.table.standard_table.Given as goal

abbrev pub invariant-loop-rate : goal.invariant-loop-rate
invariant-loop-rate l = Laid l.kept (begins l.rate)

abbrev pub invariant-loop-row : goal.invariant-loop-row
invariant-loop-row l = Laid l.kept (begins l.rate + l.row * RX l.rate)

abbrev pub invariant-loop-column : goal.invariant-loop-column
invariant-loop-column l = Laid l.kept (begins l.rate + l.row * RX l.rate + l.column)
