-- `theorems::placed_as_taken` promises its statement. Assumes nothing.
use Rattle.grid.proofs.Inverses.{placed_as_taken}
use Rattle.grid.proofs.theorems.placed_as_taken.Goals as goal

pub returns : goal.returns
returns c = placed_as_taken
