-- `unmap_cells` meets its contract. Assumes nothing.
use mathlib.Core.Path.{◌≡◌, sym, ap, ◌∙◌}
use mathlib.Core.List.{List}
use native.Mathlib.Omega.{arith}
use borrow.Author.Rules.{rules, sfits_of}
use lib.ListN.{length, get_or}
use lib.IntN.{ℤ, pos}
use mir.Syntax.{w16}
use Rattle.lists.proofs.Tables.{filled_turn, filled_end}
use Rattle.block.specs.Reading.{place_of, labels_of}
use Rattle.mapping.specs.Axes.{axis_number}
use Rattle.mapping.proofs.Coordinates.{alike}
use Rattle.mapping.proofs.Labels.{number_read}
use Rattle.mapping.proofs.points.unmap_cells.Goals as goal

pub loop-k-preserved : goal.loop-k-preserved
unfolding axis_number
loop-k-preserved c =
    let l = c.loop-k in
    let s = c in
    let v = get_or s.args.cells.now l.k (pos 0) in
    filled_turn _ _ _ _ _ _ (search rules)
    (number_read s.args.c 0 (omega arith) v _ _ (sfits_of {w = w16} c.label_of-arg-1.given) c.axis_labels-labels.ensures c.label_of.ensures
    ∙ ap (λ (m : List ℤ). place_of m v) (sym (alike s.args.c s.requires.one l.k))) l.invariant

pub returns : goal.returns
unfolding labels_of
returns c =
    let l = c.loop-k in
    let s = c in
    let e : l.k ≡ length s.args.cells.now = omega (arith, s.requires.same) in
    filled_end _ _ _ _ _ s.requires.same (rw e at l.invariant)
