use borrow.Author.Rules.{rules}
use Rattle.std.proofs.Common.{◌∙◌}
use Rattle.vectors.proofs.Taken.{next-taken, all-taken}
use Rattle.vectors.proofs.digests.of_cells.Goals as goal

pub loop-v-preserved : goal.loop-v-preserved
loop-v-preserved c =
    rw
    c.taken-d.ensures
    (next-taken _ _ c.loop-v.v-index _ c.loop-v-test.true c.shifted-arg-1.given c.shifted.ensures ∙ c.loop-v.invariant)

pub returns : goal.returns
returns c = all-taken _ _ c.loop-v.v-index (search rules) ∙ c.loop-v.invariant
