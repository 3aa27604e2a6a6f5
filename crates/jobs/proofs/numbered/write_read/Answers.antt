-- `numbered::write_read` meets its contract. Assumes nothing.
use Rattle.std.proofs.Common.{refl}
use Rattle.jobs.proofs.Steps.{read-refused}
use Rattle.jobs.proofs.numbered.write_read.Goals as goal

pub returns-in-Ok-clause-by_index : goal.returns-in-Ok-clause-by_index
returns-in-Ok-clause-by_index c = rw c.in-Ok.is c.write_read.ensures.by_index

pub returns-in-Err-clause-by_index : goal.returns-in-Err-clause-by_index
returns-in-Err-clause-by_index c = rw c.in-Err.is (λ memory. read-refused _ _ _ _ _ _ _ _ memory _ refl)
