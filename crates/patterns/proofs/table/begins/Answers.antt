-- The code's table is the definition's: checked by computation. Assumes nothing.
use mathlib.Core.Path.{ap}
use mathlib.Core.List.{flatten}
use native.Mathlib.Omega.{arith}
use Rattle.lists.specs.Lists.{table}
use Rattle.patterns.specs.Patterns.{RX, RY, numerators, denominators, printed65, rows, table65, begins, entry}
use Rattle.patterns.proofs.Loaded.{within}
use Rattle.patterns.proofs.Standard.{binary, words, rates, rate_is}
use Rattle.patterns.proofs.table.begins.Goals as goal

pub returns : goal.returns
unfolding rates words binary table RX RY numerators denominators printed65 rows flatten table65 begins entry
returns c =
    let e = ap (λ t. t.2) (rate_is c.args.rate _ c.requires) in
    (e, omega (arith, e, within c.args.rate c.requires))
