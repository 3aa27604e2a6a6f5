-- `tables::part_places` meets its contract. Assumes nothing.
use Rattle.blockplaces.proofs.Orders.{plain_ordered, empty_ordered, made-ordered, plain_over, empty_over, made-over}
use Rattle.blockplaces.proofs.tables.part_places.Goals as goal

pub returns-then-t-eq0 : goal.returns-then-t-eq0
returns-then-t-eq0 c = record { ordered = plain_ordered c.requires c.if-t-eq0.true; out_after = plain_over _ _ _ c.if-t-eq0.true }

pub returns-then-n-eq0 : goal.returns-then-n-eq0
returns-then-n-eq0 c = record { ordered = empty_ordered c.requires c.if-n-eq0.true; out_after = empty_over _ _ _ c.if-n-eq0.true }

pub returns : goal.returns
returns c = record { ordered = made-ordered c.make_places.ensures; out_after = made-over _ _ _ c.if-t-eq0.false c.if-n-eq0.false c.make_places.ensures }
