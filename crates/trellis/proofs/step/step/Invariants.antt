-- `step` meets its contract. Assumes nothing.
use Prim.Native.Nat.{◌<◌}
use Rattle.trellis.proofs.Layers.{Layering}
use Rattle.trellis.proofs.step.step.Given as goal

abbrev pub invariant-loop-s : goal.invariant-loop-s
invariant-loop-s l = Layering l.flips l.values l.j l.least l.choices l.s × (l.flip < 2)
