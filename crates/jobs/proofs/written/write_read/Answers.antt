use mathlib.Core.Path.{refl}
use Rattle.jobs.proofs.Steps.{read_through, read-refused}
use Rattle.jobs.proofs.written.write_read.Goals as goal

pub returns-in-Ok-clause-by_index : goal.returns-in-Ok-clause-by_index
returns-in-Ok-clause-by_index c = rw c.in-Ok.is (λ memory. read_through _ _ _ _ _ _ _ _ _ memory _ refl c.join_blocks.ensures)

pub returns-in-Err-clause-by_index : goal.returns-in-Err-clause-by_index
returns-in-Err-clause-by_index c = rw (c.in-Err.is, c.number.ensures) (λ memory. read-refused _ _ _ _ _ _ _ _ memory _ refl)
