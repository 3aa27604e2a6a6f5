-- `no_empty_cells` meets its contract. Assumes nothing.
use Rattle.superframe.proofs.Accepted.{coding}
use Rattle.noemptycells.proofs.NoEmptyCells.{no_empty_cells_of}
use Rattle.noemptycells.proofs.no_empty_cells.Goals as goal

pub returns : goal.returns
returns c = no_empty_cells_of coding
