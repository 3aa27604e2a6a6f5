use mathlib.Core.Path.{◌≡◌}
use lib.ListN.{take}
use lib.Seq.{sets}
use Rattle.deskcells.specs.Cells.{bytes_cells}
use Rattle.deskcells.proofs.numbers.take_cells.Given as goal

abbrev pub invariant-loop-i : goal.invariant-loop-i
invariant-loop-i l = l.cells ≡ sets l.initial.cells 0 (take l.i (bytes_cells l.bytes))
