-- `decide_points` meets its contract. Assumes nothing.
use Prim.Native.Nat.{◌≤◌}
use lib.ListN.{length}
use lib.IntN.{pos}
use Rattle.lists.proofs.Tables.{Filled}
use Rattle.measured.specs.Calls.{point_at}
use Rattle.measured.proofs.calls.decide_points.Given as goal

abbrev pub invariant-loop-m : goal.invariant-loop-m
invariant-loop-m l = Filled (pos 0) (point_at l.c l.kinds l.values) l.initial.points l.points l.m × (l.m ≤ length l.initial.points)
