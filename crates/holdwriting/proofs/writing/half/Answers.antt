-- `half` meets its contract. Assumes nothing.
use borrow.Author.Rules.{rules}
use Rattle.holdwriting.proofs.Putting.{half_even, half_odd}
use Rattle.holdwriting.proofs.writing.half.Goals as goal

pub returns-then-k-eq0 : goal.returns-then-k-eq0
returns-then-k-eq0 c = half_even _ _ (search rules) c.if-k-eq0.true

pub returns : goal.returns
returns c = half_odd _ _ c.if-k-eq0.false
