-- `shifted` meets its contract. Assumes nothing.
use mathlib.Core.Path.{ap}
use native.Mathlib.Omega.{arith}
use lib.IntN.{nat_abs}
use mir.Syntax.{w16}
use mir.Val.{of_z}
use Rattle.lists.proofs.Same.{low_digits}
use Rattle.vectors.proofs.Taken.{shifted_is}
use Rattle.vectors.proofs.digests.shifted.Goals as goal

pub overflow_cast-result : goal.overflow_cast-result
overflow_cast-result c = rw (low_digits (of_z w16 c.args.v)) (tt, record { fits = omega arith })

pub overflow_add-result : goal.overflow_add-result
overflow_add-result c = let d = ap nat_abs (low_digits (of_z w16 c.args.v)) in record { fits = omega (arith, d) }

pub returns : goal.returns
returns c = let d = ap nat_abs (low_digits (of_z w16 c.args.v)) in rw d (shifted_is c.args.v c.ranges.v)
