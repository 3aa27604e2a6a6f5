use Rattle.planjobs.proofs.Words.{asked_week, asked_none, asked_frame, asked_bad}
use Rattle.planjobs.proofs.arguments.asked.Goals as goal

pub returns-then-count-eq3 : goal.returns-then-count-eq3
returns-then-count-eq3 c = asked_week _ _ c.if-count-eq3.true

pub returns-in_err-t : goal.returns-in_err-t
returns-in_err-t c = rw c.from_residual.ensures (asked_none _ _ c.if-count-eq3.false c.in_err-t.ensures.none)

pub returns-then-frame-t : goal.returns-then-frame-t
returns-then-frame-t c = asked_frame _ _ c.if-count-eq3.false _ c.in_ok-t.ensures.some c.if-frame-t.true

pub returns : goal.returns
returns c = asked_bad _ _ c.if-count-eq3.false _ c.in_ok-t.ensures.some c.if-frame-t.false
