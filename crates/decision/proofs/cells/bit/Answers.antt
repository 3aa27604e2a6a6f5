-- `bit` meets its contract. Assumes nothing.
use mir.Syntax.{w16}
use mir.Facts.{to_z-of_z}
use Rattle.decision.specs.Cells.{bit_on}
use Rattle.decision.proofs.Axes.{bit_digit}
use Rattle.decision.proofs.cells.bit.Goals as goal

pub returns-in-Pair : goal.returns-in-Pair
returns-in-Pair c =
    let s = c in
    rw c.digit.ensures
    (bit_digit _ _ _ s.args.m s.args.l _ _ c.in-Pair.is s.requires.is (rw (to_z-of_z {w = w16} s.ranges.v) at c.axis_label.ensures))

pub returns-in-Fade : goal.returns-in-Fade
unfolding bit_on
returns-in-Fade c = rw c.in-Fade.is
