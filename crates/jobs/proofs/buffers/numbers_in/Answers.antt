use Rattle.jobs.proofs.Fronts.{numbers_of_lem}
use Rattle.jobs.proofs.buffers.numbers_in.Goals as goal

pub returns : goal.returns
returns c = numbers_of_lem _ _ _ c.numbers-cells.ensures c.take_cells.ensures c.requires
