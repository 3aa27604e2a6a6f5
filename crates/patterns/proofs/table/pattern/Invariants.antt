-- `pattern` meets its contract. Assumes nothing.
use Prim.Native.Nat.{◌≤◌}
use mathlib.Core.Path.{◌≡◌}
use lib.ListN.{replicate}
use Rattle.lists.proofs.Tables.{Filled}
use Rattle.patterns.specs.Patterns.{RX, begins, column}
use Rattle.patterns.proofs.table.pattern.Given as goal

abbrev pub invariant-loop-i : goal.invariant-loop-i
invariant-loop-i l = Filled 0 (column l.kept l.rate) (replicate 8 0) l.columns l.i × ((l.width ≡ RX l.rate) × ((l.at ≡ begins l.rate) × (l.i ≤ l.width)))
