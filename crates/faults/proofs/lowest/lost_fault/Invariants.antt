-- `faults::lost_fault` meets its contract. The loop's invariant: the blocks before i are given. Assumes nothing.
use mathlib.Core.Bool.{false}
use lib.ListN.{get_or}
use Rattle.faults.proofs.FaultTurns.{Faultless}
use Rattle.faults.proofs.lowest.lost_fault.Given as goal

abbrev pub invariant-loop-i : goal.invariant-loop-i
invariant-loop-i l = Faultless (λ k. get_or l.given k false) 7 l.i
