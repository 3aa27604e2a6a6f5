-- `all_pass` meets its contract. Assumes nothing.
use lib.ListN.{length}
use Rattle.measured.specs.Calls.{pass_at}
use Rattle.lists.proofs.Tests.{Tested}
use Rattle.measured.proofs.calls.all_pass.Given as goal

abbrev pub invariant-loop-k : goal.invariant-loop-k
invariant-loop-k l = Tested (pass_at l.kinds l.values) (length l.kinds) l.k
