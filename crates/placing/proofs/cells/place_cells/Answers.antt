-- `cells::place_cells` meets its contract. The loop's invariant: places before p are written and counted. Assumes nothing.
use borrow.Author.Rules.{sfits_of}
use mathlib.Core.Path.{refl, ◌∙◌}
use mir.Syntax.{w16}
use mir.Facts.{to_z-of_z}
use native.Mathlib.Omega.{arith}
use Rattle.placing.proofs.Placing.{placing_start, placing_turn, placing_done, small_pos, count_few}
use Rattle.placing.proofs.cells.place_cells.Goals as goal

pub loop-p-init : goal.loop-p-init
loop-p-init c = placing_start _ _ _ c.requires

pub loop-p-preserved : goal.loop-p-preserved
loop-p-preserved c =
    let l = c.loop-p in
    placing_turn _ _ _ _ _ l.p l.invariant c.loop-p-test.true (omega (arith, c.type_inv.kinds l.p)) _ _ _ _ refl (small_pos _ (omega (arith, c.type_inv.kinds l.p)))
    (to_z-of_z {w = w16} (sfits_of {w = w16} c.number_of.type_inv) ∙ c.number_of.ensures)
    (to_z-of_z {w = w16} (sfits_of {w = w16} c.number_of-in-loop-p.type_inv) ∙ c.number_of-in-loop-p.ensures)

pub returns : goal.returns
returns c = placing_done _ _ _ _ _ c.loop-p.p c.loop-p.invariant c.loop-p-test.false

pub overflow_mul-i : goal.overflow_mul-i
overflow_mul-i c = let l = c.loop-p in omega (arith, count_few _ _ _ _ _ l.p l.invariant c.loop-p-test.true (omega (arith, c.type_inv.kinds l.p)))

pub overflow_mul-i-in-loop-p : goal.overflow_mul-i-in-loop-p
overflow_mul-i-in-loop-p c = let l = c.loop-p in omega (arith, count_few _ _ _ _ _ l.p l.invariant c.loop-p-test.true (omega (arith, c.type_inv.kinds l.p)))

pub overflow_add-i : goal.overflow_add-i
overflow_add-i c = let l = c.loop-p in omega (arith, count_few _ _ _ _ _ l.p l.invariant c.loop-p-test.true (omega (arith, c.type_inv.kinds l.p)))

pub overflow_add-counts : goal.overflow_add-counts
overflow_add-counts c = let l = c.loop-p in omega (arith, count_few _ _ _ _ _ l.p l.invariant c.loop-p-test.true (omega (arith, c.type_inv.kinds l.p)))
