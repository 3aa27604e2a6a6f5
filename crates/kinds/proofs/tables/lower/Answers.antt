use borrow.Author.Rules.{rules}
use Rattle.partlengths.specs.Cells.{entry}
use Rattle.kinds.specs.Carriers.{lower_table, lower}
use Rattle.kinds.proofs.tables.lower.Goals as goal

pub returns : goal.returns
unfolding lower lower_table entry
returns c = search rules
