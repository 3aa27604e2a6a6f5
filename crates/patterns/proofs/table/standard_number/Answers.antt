-- `standard_number` meets its contract: the code's rows and the definition's table are compared whole. Assumes nothing.
use Prim.Native.Nat.{◌-◌, ◌/◌, ◌%◌, ◌^◌}
use mathlib.Core.Path.{ap, ◌∙◌}
use mathlib.Core.List.{flatten}
use lib.ListN.{get_or}
use Rattle.lists.specs.Lists.{table}
use Rattle.patterns.specs.Patterns.{RX, RY, numerators, denominators, printed65, rows, table65, begins, entry}
use Rattle.patterns.proofs.Standard.{binary, words, rates, digit, rate_is}
use Rattle.patterns.proofs.table.standard_number.Goals as goal

pub returns : goal.returns
unfolding rates words binary table RX RY numerators denominators printed65 rows flatten table65 begins entry
returns c =
    let s = c in
    rw c.numerator-width.ensures.0
    (ap (λ t. get_or t.3 s.args.row 0 / 2 ^ (RX s.args.rate - 1 - s.args.column) % 2) (rate_is s.args.rate _ s.requires.0)
    ∙ digit s.args.rate s.args.row s.args.column s.requires.0 s.requires.1.0 s.requires.1.1)
