-- `rows::take_cell` meets its contract. Assumes nothing.
use borrow.Author.Tests.{lt-leb}
use Rattle.cellmemory.specs.Clauses.{cell_after}
use Rattle.cellmemory.proofs.rows.take_cell.Goals as goal

pub returns-then-count-delay : goal.returns-then-count-delay
unfolding cell_after
returns-then-count-delay c = rw (lt-leb _ _ c.if-count-delay.true)
