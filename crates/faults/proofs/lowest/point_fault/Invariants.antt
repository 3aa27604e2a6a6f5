-- `faults::point_fault` meets its contract. The loops' invariants: the tests before FAC block i hold, and those before a row. Assumes nothing.
use Prim.Native.Nat.{◌+◌}
use Rattle.faults.specs.Clauses.{point_test}
use Rattle.faults.proofs.FaultTurns.{Faultless}
use Rattle.faults.proofs.lowest.point_fault.Given as goal

abbrev pub invariant-loop-i : goal.invariant-loop-i
invariant-loop-i l = Faultless (point_test l.s l.count l.fac l.sdc l.msc) 8 l.i

abbrev pub invariant-loop-row : goal.invariant-loop-row
invariant-loop-row l = Faultless (point_test l.s l.count l.fac l.sdc l.msc) 8 (4 + l.row)
