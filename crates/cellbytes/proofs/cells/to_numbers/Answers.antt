-- `to_numbers` meets its contract. The loop's invariant: the numbers of the cells before i are there. Assumes nothing.
use mathlib.Core.Path.{◌∙◌}
use native.Mathlib.Omega.{arith}
use borrow.Author.Rules.{rules, sfits_of}
use mir.Syntax.{w16}
use mir.Facts.{to_z-of_z}
use Rattle.cellbytes.proofs.Loops.{numbers_turn, numbers_end}
use Rattle.cellbytes.proofs.cells.to_numbers.Goals as goal

pub loop-i-preserved : goal.loop-i-preserved
loop-i-preserved c =
    let l = c.loop-i in
    let re = to_z-of_z {w = w16} (sfits_of {w = w16} c.real.type_inv) ∙ c.real.ensures in
    let im = to_z-of_z {w = w16} (sfits_of {w = w16} c.imaginary.type_inv) ∙ c.imaginary.ensures in
    (omega arith, numbers_turn _ _ _ _ _ _ c.requires (search rules) re im l.invariant.1)

pub returns : goal.returns
returns c =
    let l = c.loop-i in
    numbers_end _ _ _ l.i c.requires l.invariant.0 c.loop-i-test.false l.invariant.1
