-- `Rounds::lay_columns` meets its contract. Assumes nothing.
use borrow.Author.Rules.{rules}
use Rattle.encoder.proofs.Rounds.{columns-start, columns_turn, lays_column, rest-lent}
use Rattle.encoder.proofs.segment.Rounds.lay_columns.Goals as goal

pub lay_column-at-requires : goal.lay_column-at-requires
lay_column-at-requires c =
    let p = c.requires.0 in
    (rw (rest-lent c.args.registers.now c.loop-i.i, c.requires.1) (lays_column p c.loop-i.invariant.same c.loop-i.invariant.place (search rules)), p.sound.four c.loop-i.i (search rules))

pub loop-i-preserved : goal.loop-i-preserved
loop-i-preserved c =
    let h = c.lay_column-at.ensures in
    columns_turn c.requires.0 c.loop-i.invariant (search rules) (rw (rest-lent c.args.registers.now c.loop-i.i, c.requires.1) at h.1) h.0

pub loop-i-init : goal.loop-i-init
loop-i-init c = columns-start c.requires.0
