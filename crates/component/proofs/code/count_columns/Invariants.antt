-- `count_columns` meets its contract. The loop's invariant: the sum and the coded bits of what is left are those of the whole. Assumes nothing.
use Prim.Native.Nat.{◌+◌, ◌-◌, ◌<◌}
use mathlib.Core.Path.{◌≡◌}
use lib.ListN.{length}
use Rattle.component.specs.Decoding.{coded_length}
use Rattle.component.proofs.code.count_columns.Given as goal

abbrev pub invariant-loop-k : goal.invariant-loop-k
invariant-loop-k l = (l.i < length l.pattern) × (l.sum + coded_length l.pattern l.i (l.n - l.k) ≡ coded_length l.pattern 0 l.n)
