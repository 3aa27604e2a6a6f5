use mathlib.Core.Path.{◌∙◌}
use Rattle.fitjobs.proofs.Fitted.{count_given}
use Rattle.fitjobs.proofs.argument.count.Goals as goal

pub returns : goal.returns
returns c =
    let read = c.read_through-read in
    c.then_some.ensures ∙ count_given c.args.word.now read.result read.ensures
