-- `theorems::cells_in_order` promises its statement. Assumes nothing.
use Rattle.grid.proofs.Inverses.{cells_in_order}
use Rattle.grid.proofs.theorems.cells_in_order.Goals as goal

pub returns : goal.returns
returns c = cells_in_order
