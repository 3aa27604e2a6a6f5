-- `rate_passes` meets its contract. Assumes nothing.
use borrow.Author.Rules.{rules}
use Rattle.patterns.specs.Loaded.{rate_passes}
use Rattle.loadedtable.proofs.Tables.{first_row, numbers-sliced}
use Rattle.loadedtable.proofs.test.rate_passes.Goals as goal

pub returns-then-all_ones : goal.returns-then-all_ones
unfolding rate_passes
returns-then-all_ones c =
    rw (
      ← first_row c.args.kept.now c.args.rate _ _ (search rules) c.requires c.begins-at.ensures.0 c.numerator-width.ensures.0,
      ← c.all_ones.ensures,
      c.if-all_ones.true,
      ← numbers-sliced c.args.kept.now c.args.rate _ _ (search rules) c.requires c.begins-at.ensures.0 c.numerator-width.ensures.0,
      c.sum.ensures,
      c.denominator.ensures,
    )

pub returns-else-all_ones : goal.returns-else-all_ones
unfolding rate_passes
returns-else-all_ones c =
    rw (
      ← first_row c.args.kept.now c.args.rate _ _ (search rules) c.requires c.begins-at.ensures.0 c.numerator-width.ensures.0,
      ← c.all_ones.ensures,
      c.if-all_ones.false,
    )
