-- `sum` meets its contract. Assumes nothing.
use mathlib.Core.Path.{◌≡◌, ◌∙◌, refl}
use borrow.Author.Rules.{rules}
use Rattle.std.specs.List.{sum_by}
use Rattle.loadedtable.proofs.Tables.{sum-total}
use Rattle.loadedtable.proofs.test.sum.Goals as goal

pub returns : goal.returns
returns c =
    let e : c.sum.result ≡ sum_by (λ x. x) c.args.numbers.now = search rules in
    e ∙ sum-total (λ x. x) c.args.numbers.now (λ n. refl)
