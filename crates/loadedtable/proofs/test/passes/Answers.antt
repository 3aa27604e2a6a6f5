-- `passes` meets its contract. Assumes nothing.
use mathlib.Core.Path.{◌≡◌, ◌∙◌}
use borrow.Author.Rules.{rules}
use Rattle.loadedtable.proofs.Tables.{passes_long, passes-bits, passes-rates}
use Rattle.loadedtable.proofs.test.passes.Goals as goal

pub returns-in-Err : goal.returns-in-Err
returns-in-Err c = passes_long _ (search rules)

pub returns-else-bits_only : goal.returns-else-bits_only
returns-else-bits_only c =
    let same : c.in-Ok.whole.now ≡ c.args.kept.now = search rules in
    c.if-bits_only.false ∙ passes-bits _ _ (search rules) (rw same at c.bits_only.ensures) c.if-bits_only.false

pub returns-then-bits_only : goal.returns-then-bits_only
returns-then-bits_only c =
    let same : c.in-Ok.whole.now ≡ c.args.kept.now = search rules in
    passes-rates _ _ _ (search rules) (rw same at c.bits_only.ensures) c.if-bits_only.true (rw same at c.rates_pass.ensures)
