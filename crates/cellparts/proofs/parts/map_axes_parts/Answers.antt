-- `map_axes_parts` meets its contract. Assumes nothing.
use Rattle.cellparts.proofs.Halves.{mapped-axes-parts}
use Rattle.cellparts.proofs.parts.map_axes_parts.Goals as goal

pub returns : goal.returns
returns c = mapped-axes-parts c.requires _ c.map_axes.ensures c.map_axes-2.ensures
