-- `kept::keep_cells` meets its contract. The loop's invariant: the numbers of the cells before i are kept. Assumes nothing.
use Prim.Native.Nat.{◌+◌, ◌*◌, ◌≤◌}
use mathlib.Core.Path.{◌∙◌}
use native.Mathlib.Omega.{arith}
use borrow.Author.Rules.{rules, sfits_of}
use lib.ListN.{length, get_or}
use lib.IntN.{pos}
use mir.Syntax.{w16}
use mir.Facts.{to_z-of_z}
use Rattle.keptcells.proofs.Turns.{first-kept, second_kept, kept_turn, kept_end, number_read}
use Rattle.keptcells.proofs.kept.keep_cells.Goals as goal

pub loop-i-preserved : goal.loop-i-preserved
loop-i-preserved c =
    let b = c in
    let p = b.requires in
    let cells = b.args.cells.now in
    let low : 2 * b.loop-i.i + 2 ≤ length b.args.cells.now = omega (arith, c.loop-i-test.true) in
    let point = c.all_pass-point.result in
    let test = c.all_pass-point.ensures in
    let re = to_z-of_z {w = w16} (sfits_of {w = w16} c.kept_number.type_inv) ∙ c.kept_number.ensures in
    let im = to_z-of_z {w = w16} (sfits_of {w = w16} c.kept_number-in-loop-i.type_inv) ∙ c.kept_number-in-loop-i.ensures in (
      omega arith,
      kept_turn _ _ _ _ _ _ _ (omega (arith, p.room)) (re ∙ number_read (get_or cells (2 * b.loop-i.i) (pos 0)) _ point (search rules) (first-kept _ _ _ low point test)) (im ∙ number_read (get_or cells (2 * b.loop-i.i + 1) (pos 0)) _ point (search rules) (second_kept _ _ _ low point test)) b.loop-i.invariant.1,
    )

pub returns : goal.returns
returns c =
    let l = c.loop-i in
    let p = c.requires in
    kept_end _ _ _ c.msc_constellation-constellation.ensures _ _ l.i p.pairs p.room l.invariant.0 c.loop-i-test.false l.invariant.1
