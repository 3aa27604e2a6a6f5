use borrow.Author.Rules.{rules}
use Rattle.partlengths.specs.Cells.{entry}
use Rattle.kinds.specs.Carriers.{upper_table, upper}
use Rattle.kinds.proofs.tables.upper.Goals as goal

pub returns : goal.returns
unfolding upper upper_table entry
returns c = search rules
