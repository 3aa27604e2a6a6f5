-- `kinds::paint` meets its contract. The loop's invariant: what is left of the list leads to what the whole leads to. Assumes nothing.
use lib.ListN.{length}
use Rattle.kinds.specs.Clauses.{carrier_list}
use Rattle.kinds.specs.Numbered.{mode_number}
use Rattle.kinds.proofs.Paints.{Marking}
use Rattle.kinds.proofs.rows.paint.Given as goal

abbrev pub invariant-loop-carrier : goal.invariant-loop-carrier
invariant-loop-carrier l = Marking (carrier_list (mode_number l.fn.mode) l.list) l.number l.initial.row l.carriers (length l.carriers) l.row l.carrier-index
