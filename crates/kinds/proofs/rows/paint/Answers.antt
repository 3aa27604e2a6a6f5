-- `kinds::paint` meets its contract. The loop's invariant: what is left of the list leads to what the whole leads to. Assumes nothing.
use Rattle.kinds.proofs.Paints.{mark_start, mark_turn, mark_done}
use Rattle.kinds.proofs.Bands.{mode_low}
use Rattle.kinds.proofs.rows.paint.Goals as goal

pub listed-carriers-requires : goal.listed-carriers-requires
listed-carriers-requires c = (c.number.ensures.low, c.requires)

pub loop-carrier-init : goal.loop-carrier-init
loop-carrier-init c = mark_start _ _ _ _ _ (mode_low c.args.mode) c.requires (rw (← c.number.ensures.value) c.listed-carriers.ensures)

pub loop-carrier-preserved : goal.loop-carrier-preserved
loop-carrier-preserved c = let l = c.loop-carrier in mark_turn _ _ _ _ _ _ l.carrier-index c.loop-carrier-test.true l.invariant

pub returns : goal.returns
returns c = let l = c.loop-carrier in rw (← c.number-number.ensures) (mark_done _ _ _ _ _ _ l.carrier-index c.loop-carrier-test.false l.invariant)
