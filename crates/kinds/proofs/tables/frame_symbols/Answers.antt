use borrow.Author.Rules.{rules}
use Rattle.kinds.specs.Carriers.{table80, frame_symbols}
use Rattle.kinds.proofs.tables.frame_symbols.Goals as goal

pub returns : goal.returns
unfolding frame_symbols table80
returns c = search rules
