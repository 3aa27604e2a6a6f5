-- `Columns::new` meets its contract. Assumes nothing.
use Rattle.component.proofs.Widths.{widths-lent}
use Rattle.component.proofs.code.Columns.new.Goals as goal

pub invariant_of-result-clause-known : goal.invariant_of-result-clause-known
invariant_of-result-clause-known c = let w = c.widths_of-widths.ensures in widths-lent c.args.pattern _ c.requires w.0 w.1
