-- `collect_column` meets its contract. Assumes nothing.
use mathlib.Core.Path.{refl}
use native.Mathlib.Omega.{arith}
use borrow.Author.Rules.{rules}
use Rattle.component.proofs.Widths.{width_is}
use Rattle.decoder.proofs.Collecting.{column-start, column_room, column_turn, column_done}
use Rattle.decoder.proofs.segment.collect_column.Goals as goal

pub loop-j-init : goal.loop-j-init
loop-j-init c = column-start c.requires.begun c.requires.others

pub bounds-coded-at : goal.bounds-coded-at
bounds-coded-at c = let l = c in omega (arith, column_room l.requires.whole l.loop-j.invariant (search rules))

pub bounds-out-j : goal.bounds-out-j
bounds-out-j c = omega (arith, c.loop-j.invariant.same)

pub overflow_add-at : goal.overflow_add-at
overflow_add-at c = let l = c in omega (arith, column_room l.requires.whole l.loop-j.invariant (search rules))

pub overflow_add-j : goal.overflow_add-j
overflow_add-j c = omega (arith, c.requires.whole.few, width_is c.args.columns.pattern c.args.columns.held)

pub loop-j-smaller : goal.loop-j-smaller
loop-j-smaller c = omega (arith, c.requires.whole.sound.some, width_is c.args.columns.pattern c.args.columns.held)

pub loop-j-preserved : goal.loop-j-preserved
loop-j-preserved c = rw (width_is c.args.columns.pattern c.args.columns.held) at (column_turn c.requires.whole c.loop-j.invariant (search rules) refl)

pub shape_of-out : goal.shape_of-out
shape_of-out c = search rules

pub returns : goal.returns
returns c = (c.loop-j.invariant.same, column_done c.requires.whole c.loop-j.invariant (search rules))
