-- `decode_columns` meets its contract. Assumes nothing.
use mathlib.Core.Path.{◌≡◌}
use Rattle.patterns.specs.Clauses.{pattern_of}
use Rattle.component.specs.Register.{next, parity}
use Rattle.component.proofs.Reading.{Reading}
use Rattle.component.proofs.code.decode_columns.Given as goal

abbrev pub invariant-loop-place : goal.invariant-loop-place
invariant-loop-place l = Reading (pattern_of l.columns.pattern) l.fn.from.register l.coded l.fn.from.at l.initial.out l.out l.coder.register l.coder.at l.i l.place-index × (parity 0o133 l.older ≡ parity 0o133 (next l.coder.register 0))
