-- `below` meets its contract: the literals are the middles. Assumes nothing.
use mathlib.Core.Path.{refl}
use lib.Ieee.{odd, of_fields, of_bits}
use lib.Count.{count_trailing_zeros}
use Rattle.decision.specs.Clauses.{middles}
use Rattle.decision.proofs.axis.below.Goals as goal

pub returns : goal.returns
unfolding middles odd of_fields of_bits count_trailing_zeros
returns c = refl
