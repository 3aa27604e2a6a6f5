-- `map_parts` meets its contract. Assumes nothing.
use Rattle.cellparts.proofs.Halves.{mapped-parts}
use Rattle.cellparts.proofs.parts.map_parts.Goals as goal

pub returns : goal.returns
returns c = mapped-parts c.requires c.map_cells.ensures c.map_cells-2.ensures
