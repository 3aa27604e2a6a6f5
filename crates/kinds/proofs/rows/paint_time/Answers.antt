-- `kinds::paint_time` meets its contract. Assumes nothing.
use Rattle.kinds.proofs.Paints.{no_time, first-time}
use Rattle.kinds.proofs.rows.paint_time.Goals as goal

pub returns-then-symbol-ne0 : goal.returns-then-symbol-ne0
returns-then-symbol-ne0 c = no_time _ _ _ _ c.if-symbol-ne0.true

pub returns : goal.returns
returns c =
    let b = c in
    first-time _ _ _ _ _ b.if-symbol-ne0.false b.paint.ensures
