-- `numbered::finish_read` meets its contract: an accepted call answers as `answers::finish_read`. Assumes nothing.
use Rattle.statebytes.proofs.numbered.finish_read.Goals as goal

pub returns-in-Ok-clause-value : goal.returns-in-Ok-clause-value
returns-in-Ok-clause-value c = rw c.in-Ok.is (c.finish_read.ensures.value c.args.state)

pub returns-in-Ok-clause-bytes_after : goal.returns-in-Ok-clause-bytes_after
returns-in-Ok-clause-bytes_after c = rw c.in-Ok.is (c.finish_read.ensures.bytes_after c.args.state)
