use Rattle.plan.specs.Rules.{mark_of}
use Rattle.plan.proofs.marks.mark.Goals as goal

pub returns-then-changes : goal.returns-then-changes
unfolding mark_of
returns-then-changes c = rw (rw (c.changes.ensures, c.changes-2.ensures) at c.if-changes.true)

pub returns-then-changes-2 : goal.returns-then-changes-2
unfolding mark_of
returns-then-changes-2 c = let b = c in rw (rw (b.changes.ensures, b.changes-2.ensures) at b.if-changes.false, rw c.changes-3.ensures at c.if-changes-2.true)

pub returns : goal.returns
unfolding mark_of
returns c = let b = c in rw (rw (b.changes.ensures, b.changes-2.ensures) at b.if-changes.false, rw c.changes-3.ensures at c.if-changes-2.false)
