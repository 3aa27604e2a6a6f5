-- `put_line` meets its contract. Assumes nothing.
use Rattle.lists.proofs.Tables.{Filled}
use Rattle.holdwriting.proofs.Putting.{byte}
use Rattle.holdwriting.proofs.writing.put_line.Given as goal

abbrev pub invariant-loop-k : goal.invariant-loop-k
invariant-loop-k l = Filled 0 (byte l.form l.cells) l.initial.line l.line l.k
