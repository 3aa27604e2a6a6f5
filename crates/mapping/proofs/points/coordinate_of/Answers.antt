-- `coordinate_of` meets its contract. Assumes nothing.
use borrow.Author.Rules.{rules}
use Rattle.mapping.proofs.Labellings.{coordinate-found, coordinate-past}
use Rattle.mapping.proofs.points.coordinate_of.Goals as goal

pub returns-then-label-l : goal.returns-then-label-l
returns-then-label-l c = let s = c in coordinate-found s.args.l.twice s.requires.0 s.requires.1 (search rules)

pub returns : goal.returns
returns c = coordinate-past _ _ _ _ c.if-label-l.false
