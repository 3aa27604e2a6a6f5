-- `refusal::frames_spare` meets its contract. The loop's invariant: passed tells whether the frames before i have no spare bit set. Assumes nothing.
use Prim.Native.Nat.{ℕ}
use mathlib.Core.Bool.{Bool}
use mathlib.Core.List.{List}
use Rattle.block.specs.Packing.{spare_zero}
use Rattle.superframe.specs.Call.{part}
use Rattle.lists.proofs.Tests.{Passed}
use Rattle.callrefusals.proofs.refusals.frames_spare.Given as goal

abbrev pub frame-spare : ℕ → ℕ → List ℕ → ℕ → Bool
frame-spare bits bytes msc i = spare_zero bits (part bytes msc i)

abbrev pub invariant-loop-i : goal.invariant-loop-i
invariant-loop-i l = Passed (frame-spare l.bits l.bytes l.msc) 3 l.i l.passed
