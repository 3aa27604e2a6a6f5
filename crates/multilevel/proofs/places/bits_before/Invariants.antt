-- `bits_before` meets its contract. Assumes nothing.
use mathlib.Core.Path.{◌≡◌}
use Rattle.multilevel.specs.Clauses.{bits_before}
use Rattle.multilevel.specs.Parts.{is_b}
use Rattle.multilevel.proofs.places.bits_before.Given as goal

abbrev pub invariant-loop-i : goal.invariant-loop-i
invariant-loop-i l = l.sum ≡ bits_before l.k.levels (is_b l.part) l.i
