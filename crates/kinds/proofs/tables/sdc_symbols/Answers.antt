use borrow.Author.Rules.{rules}
use Rattle.kinds.specs.Control.{sdc_symbols}
use Rattle.kinds.proofs.tables.sdc_symbols.Goals as goal

pub returns : goal.returns
unfolding sdc_symbols
returns c = search rules
