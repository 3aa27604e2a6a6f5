-- `widths_of` meets its contract. Assumes nothing.
use mathlib.Core.Path.{◌≡◌, refl}
use native.Mathlib.Omega.{arith}
use borrow.Author.Rules.{rules}
use lib.ListN.{replicate}
use Rattle.lists.proofs.Tables.{filled_end}
use Rattle.component.proofs.code.widths_of.Goals as goal

pub returns : goal.returns
returns c =
    let l = c.loop-i in
    let e : l.i ≡ 8 = omega (arith, l.invariant.1) in
    (filled_end 0 _ (replicate 8 0) l.widths 8 refl (rw e at l.invariant.0), search rules)
