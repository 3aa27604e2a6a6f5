-- By name, so that a comma taken elsewhere is refused by the values that differ.
use mathlib.Core.Path.{sym, ◌∙◌}
use Rattle.muxjobs.specs.Argument.{with_comma}
use Rattle.muxjobs.proofs.Told.{read_comma}
use Rattle.muxjobs.proofs.argument.Reading.read.Goals as goal

pub returns-then-byte-self-clause-value : goal.returns-then-byte-self-clause-value
unfolding with_comma
returns-then-byte-self-clause-value c = read_comma c.args.self c.args.byte (sym c.is_digit.ensures ∙ c.if-is_digit.false) c.if-byte-self.true
