-- `bits::scatter` meets its contract. The loop's invariant: the bits of the labels from i on are left to scatter. Assumes nothing.
use Rattle.block.specs.Reading.{taken}
use Rattle.labels.proofs.Ordering.{Scattering}
use Rattle.labels.proofs.bits.scatter.Given as goal

abbrev pub invariant-loop-i : goal.invariant-loop-i
invariant-loop-i l = Scattering l.places (taken l.weight l.labels) l.initial.out l.out l.i
