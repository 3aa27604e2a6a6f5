use Rattle.std.proofs.Common.{◌≡◌, length, take}
use lib.Seq.{sets}
use Rattle.linejobs.specs.Nearest.{values_in}
use Rattle.linejobs.proofs.received.read_values.Given as goal

abbrev pub invariant-loop-i : goal.invariant-loop-i
invariant-loop-i l = (l.values ≡ sets l.initial.values 0 (take l.i (values_in l.line))) × (length l.values ≡ length l.initial.values)
