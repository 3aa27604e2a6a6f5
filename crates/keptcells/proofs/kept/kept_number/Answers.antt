-- `kept::kept_number` meets its contract. Assumes nothing.
use mir.Syntax.{w16}
use mir.Facts.{to_z-of_z}
use Rattle.keptcells.proofs.kept.kept_number.Goals as goal

pub returns-then-point : goal.returns-then-point
returns-then-point c = rw c.if-point.true (to_z-of_z {w = w16} c.ranges.v)

pub returns : goal.returns
returns c = rw c.if-point.false
