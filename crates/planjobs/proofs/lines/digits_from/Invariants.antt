-- What the rest of the line leads to.
use Rattle.std.proofs.Common.{◌≤◌, length, max}
use Rattle.planjobs.proofs.Scanned.{Scanning}
use Rattle.planjobs.proofs.lines.digits_from.Given as goal

abbrev pub invariant-loop-next : goal.invariant-loop-next
invariant-loop-next l = Scanning l.line l.from l.value l.next × (l.next ≤ max l.from (length l.line))
