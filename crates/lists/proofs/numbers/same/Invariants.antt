-- `numbers::same` meets its contract. The loop's invariant: the numbers before i are equal, and what is left is, exactly if the whole is. Assumes nothing.
use mathlib.Core.Bool.{◌&&◌}
use mathlib.Core.Path.{◌≡◌}
use lib.ListN.{drop}
use Rattle.lists.specs.Same.{same_numbers}
use Rattle.lists.proofs.numbers.same.Given as goal

abbrev pub invariant-loop-i : goal.invariant-loop-i
invariant-loop-i l = (l.passed && same_numbers (drop l.i l.x) (drop l.i l.y)) ≡ same_numbers l.x l.y
