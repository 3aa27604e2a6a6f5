-- `spread_segment` meets its contract. Assumes nothing.
use native.Mathlib.Omega.{arith}
use borrow.Author.Rules.{rules}
use Rattle.component.specs.Codeword.{following}
use Rattle.nearest.proofs.Spreading.{segment_turn, segment_done}
use Rattle.nearest.proofs.values.spread_segment.Goals as goal

pub loop-j-preserved : goal.loop-j-preserved
unfolding following
loop-j-preserved c =
    let s = c in
    let l = s in
    segment_turn
    l.requires.sound
    l.loop-j.invariant
    (search rules)
    s.spread_column-at.ensures.0
    s.spread_column-at.ensures.1
    c.following-i.ensures

pub returns : goal.returns
returns c =
    let p = c in
    segment_done p.requires.sound c.loop-j.invariant (search rules) (omega (arith, p.requires.whole))
