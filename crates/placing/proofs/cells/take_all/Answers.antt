-- `cells::take_all` meets its contract. Assumes nothing.
use Rattle.placing.proofs.Taking.{all-taken}
use Rattle.placing.proofs.cells.take_all.Goals as goal

pub returns : goal.returns
returns c =
    all-taken _ _ _ _ _ c.take_cells.ensures c.take_cells-2.ensures c.take_cells-3.ensures
