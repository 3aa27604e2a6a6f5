-- `numbered::finish` meets its contract: an accepted call answers as `answers::finish`. Assumes nothing.
use Rattle.std.proofs.Common.{sym, ◌∙◌}
use Rattle.statebytes.proofs.numbered.finish.Goals as goal

pub returns-in-0-clause-value : goal.returns-in-0-clause-value
returns-in-0-clause-value c = c.answer.ensures ∙ c.finish.ensures.value c.args.done.values ∙ sym c.in-0.is

pub returns-in-0-clause-bytes_after : goal.returns-in-0-clause-bytes_after
returns-in-0-clause-bytes_after c = rw c.in-0.is (c.finish.ensures.bytes_after c.args.done.values)
