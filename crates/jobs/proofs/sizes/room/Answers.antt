use mathlib.Core.Path.{refl}
use Rattle.jobs.proofs.Lengths.{rooms}
use Rattle.jobs.proofs.sizes.room.Goals as goal

pub returns : goal.returns
returns c = rooms _ _ _ _ _ _ c.sizes_or_none-z.ensures c.grid_length.ensures c.input_length.ensures refl
