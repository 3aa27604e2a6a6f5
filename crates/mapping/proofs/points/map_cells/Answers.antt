-- `map_cells` meets its contract. Assumes nothing.
use mathlib.Core.Path.{◌≡◌, sym, ap, ◌∙◌}
use mathlib.Core.List.{List}
use native.Mathlib.Omega.{arith}
use borrow.Author.Rules.{rules, sfits_of}
use lib.ListN.{length, get_or}
use lib.IntN.{ℤ, pos}
use mir.Syntax.{w16}
use mir.Facts.{to_z-of_z}
use Rattle.lists.proofs.Tables.{filled_turn, filled_end}
use Rattle.block.specs.Mapping.{constellation}
use Rattle.mapping.specs.Labels.{coordinates}
use Rattle.mapping.specs.Axes.{axis_number}
use Rattle.mapping.proofs.Coordinates.{alike}
use Rattle.mapping.proofs.points.map_cells.Goals as goal

pub loop-k-preserved : goal.loop-k-preserved
unfolding axis_number
loop-k-preserved c =
    let l = c.loop-k in
    let s = c in
    let K = constellation s.args.c in
    let n = get_or s.args.labels.now l.k 0 in
    filled_turn _ _ _ _ _ _ (search rules)
    (to_z-of_z {w = w16} (sfits_of {w = w16} c.coordinate_of.type_inv) ∙ c.coordinate_of.ensures
    ∙ c.axis_labelling-l.ensures.each n (s.requires.low.low l.k)
    ∙ ap (λ (m : List ℤ). get_or m n (pos 0)) (sym (alike s.args.c s.requires.one l.k))) l.invariant

pub returns : goal.returns
unfolding coordinates
returns c =
    let l = c.loop-k in
    let s = c in
    let e : l.k ≡ length s.args.labels.now = omega arith in
    filled_end _ _ _ _ _ s.requires.same (rw e at l.invariant)
