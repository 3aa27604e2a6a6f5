-- `widths_of` meets its contract. Assumes nothing.
use Prim.Native.Nat.{◌≤◌}
use lib.ListN.{get_or, replicate}
use lib.Count.{ones}
use Rattle.lists.proofs.Tables.{Filled}
use Rattle.component.proofs.code.widths_of.Given as goal

abbrev pub invariant-loop-i : goal.invariant-loop-i
invariant-loop-i l = Filled 0 (λ k. ones (get_or l.columns k 0)) (replicate 8 0) l.widths l.i × (l.i ≤ 8)
