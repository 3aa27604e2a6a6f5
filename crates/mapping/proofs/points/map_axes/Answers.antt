-- `map_axes` meets its contract. Assumes nothing.
use mathlib.Core.Path.{sym, ◌∙◌}
use borrow.Author.Rules.{rules, sfits_of}
use mir.Syntax.{w16}
use mir.Facts.{to_z-of_z}
use Rattle.mapping.specs.Axes.{axis_number}
use Rattle.mapping.proofs.Coordinates.{start, turn, done, weave_even, weave_odd}
use Rattle.block.proofs.Mapping.{length-weave}
use Rattle.mapping.proofs.points.map_axes.Goals as goal

pub loop-k-init : goal.loop-k-init
loop-k-init c = start _ _ _ (c.requires.same ∙ sym (length-weave _ _))

pub loop-k-preserved : goal.loop-k-preserved
unfolding axis_number
loop-k-preserved c =
    let l = c in
    let s = l in
    let k = l.loop-k.k in
    let one = c.coordinate_of in
    let two = c.coordinate_of-in-loop-k in
    turn
    l.loop-k.invariant
    (search rules)
    _
    _
    (sym (weave_even s.args.re.now s.args.im.now k (search rules)))
    (sym (weave_odd s.args.re.now s.args.im.now k (search rules)))
    (to_z-of_z {w = w16} (sfits_of {w = w16} one.type_inv) ∙ one.ensures ∙ l.axis_labelling-real.ensures.each _ (s.requires.low_real.low k))
    (to_z-of_z {w = w16} (sfits_of {w = w16} two.type_inv) ∙ two.ensures ∙ l.axis_labelling-imaginary.ensures.each _ (s.requires.low_imaginary.low k))

pub returns : goal.returns
returns c = done c.loop-k.invariant (search rules)
