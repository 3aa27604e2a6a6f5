-- `disperse` meets its contract. The loop's invariant: the bits before i are dispersed, and where others are left, a period begins with bit i. Assumes nothing.
use Prim.Native.Nat.{◌+◌, ◌%◌, ◌<◌}
use mathlib.Core.Path.{◌≡◌}
use lib.ListN.{length}
use Rattle.lists.specs.Lists.{table}
use Rattle.block.specs.Dispersal.{p}
use Rattle.dispersal.proofs.Periods.{Dispersing}
use Rattle.dispersal.proofs.bits.disperse.Given as goal

abbrev pub invariant-loop-i : goal.invariant-loop-i
invariant-loop-i l = Dispersing l.treated l.fn.bits l.bits ((l.treated + l.i) % 511) l.i × ((l.i < length l.fn.bits → (l.treated + l.i) % 511 ≡ 0) × (l.sequence ≡ table p 0 511))
