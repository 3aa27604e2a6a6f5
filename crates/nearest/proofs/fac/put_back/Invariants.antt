-- `put_back` meets its contract. The loop's invariant: the first i values stand at their places. Assumes nothing.
use Prim.Native.Nat.{◌≤◌}
use lib.ListN.{length}
use Rattle.interleaver.proofs.Interleaving.{Returned}
use Rattle.nearest.proofs.fac.put_back.Given as goal

abbrev pub invariant-loop-i : goal.invariant-loop-i
invariant-loop-i l = (l.i ≤ length l.received) × Returned 0 21 (length l.received) l.received l.values l.i
