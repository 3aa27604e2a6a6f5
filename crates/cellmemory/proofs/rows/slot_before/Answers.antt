-- `rows::slot_before` meets its contract. Assumes nothing.
use borrow.Author.Tests.{lt-ltb, le-ltb}
use Rattle.cellmemory.specs.Clauses.{previous}
use Rattle.cellmemory.proofs.rows.slot_before.Goals as goal

pub returns-then-at-n : goal.returns-then-at-n
unfolding previous
returns-then-at-n c = rw (lt-ltb _ _ c.if-at-n.true)

pub returns : goal.returns
unfolding previous
returns c = rw (le-ltb _ _ c.if-at-n.false)
