-- `theorems::taken_as_placed` promises its statement. Assumes nothing.
use Rattle.grid.proofs.Inverses.{taken_as_placed}
use Rattle.grid.proofs.theorems.taken_as_placed.Goals as goal

pub returns : goal.returns
returns c = taken_as_placed
