-- `kept::mark_lost` meets its contract. The loop's invariant: the marks before i are there. Assumes nothing.
use Prim.Native.Nat.{ℕ, ◌≤◌}
use mathlib.Core.Bool.{false}
use lib.ListN.{get_or}
use Rattle.lists.proofs.Tables.{Filled}
use Rattle.keptcells.specs.ReadOn.{lost_mark}
use Rattle.keptcells.proofs.kept.mark_lost.Given as goal

abbrev pub invariant-loop-i : goal.invariant-loop-i
invariant-loop-i l = (l.i ≤ 7) × Filled 0 (λ (k : ℕ). lost_mark (get_or l.given k false)) l.initial.lost l.lost l.i
