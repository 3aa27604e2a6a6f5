-- `collect` meets its contract. Assumes nothing.
use native.Mathlib.Omega.{arith}
use Rattle.std.proofs.lemmas.List.{get_or-take}
use Rattle.component.proofs.Widths.{width_is}
use Rattle.decoder.proofs.Collecting.{columns-start, columns_room, columns_turn, columns_done}
use Rattle.decoder.proofs.segment.collect.Goals as goal

pub overflow_add-at : goal.overflow_add-at
overflow_add-at c =
    let w = width_is c.args.columns.pattern c.args.columns.held in
    rw (get_or-take c.args.columns.pattern.width c.args.columns.widths c.loop-i.i 0 (omega arith))
    (omega (arith, c.args.columns.known.known c.loop-i.i (omega (arith, w)), columns_room c.requires c.loop-i.invariant (omega (arith, w))))

pub loop-i-preserved : goal.loop-i-preserved
loop-i-preserved c =
    let w = width_is c.args.columns.pattern c.args.columns.held in
    let e = c.collect_column.ensures in
    rw (get_or-take c.args.columns.pattern.width c.args.columns.widths c.loop-i.i 0 (omega arith))
    (columns_turn c.requires c.loop-i.invariant (omega (arith, w)) e.0 (c.args.columns.known.known c.loop-i.i (omega (arith, w))) e.1)

pub loop-i-init : goal.loop-i-init
loop-i-init c = columns-start _ _ _ _

pub returns : goal.returns
returns c = (c.loop-i.invariant.same, columns_done c.requires c.loop-i.invariant (omega (arith, width_is c.args.columns.pattern c.args.columns.held)))
