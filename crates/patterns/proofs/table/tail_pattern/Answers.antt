-- `tail_pattern` meets its contract. Assumes nothing.
use borrow.Author.Rules.{rules}
use Rattle.patterns.specs.Patterns.{columns, tail, table66}
use Rattle.patterns.specs.Clauses.{padded}
use Rattle.patterns.proofs.Patterns.{tail_is}
use Rattle.patterns.proofs.table.tail_pattern.Goals as goal

pub returns : goal.returns
unfolding padded table66 tail columns
returns c = tail_is _ _ (search rules)
