use mathlib.Core.Path.{◌∙◌}
use Rattle.jobs.proofs.Steps.{answered-refused, answered-through}
use Rattle.jobs.proofs.written.write_cells.Goals as goal

pub returns-in-Ok : goal.returns-in-Ok
returns-in-Ok c = let j = c.join_cells.ensures in record { by_index = (λ memory. answered-through _ _ memory c.in-Ok.is j); length_in_bounds = j.fits }

pub returns-in-Err : goal.returns-in-Err
returns-in-Err c = let r = c.refused.ensures in record { by_index = (λ memory. r.by_index memory _ ∙ answered-refused _ _ memory _ _ c.in-Err.is); length_in_bounds = rw r.nothing_written tt }
