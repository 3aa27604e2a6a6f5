-- `half_bits` meets its contract. Assumes nothing.
use mathlib.Core.Path.{◌≡◌, refl}
use native.Mathlib.Omega.{arith}
use borrow.Author.Rules.{rules}
use Rattle.lists.proofs.Tables.{filled_turn, filled_end}
use Rattle.packing.specs.Clauses.{half_bit}
use Rattle.packing.proofs.bits.half_bits.Goals as goal

pub loop-k-preserved : goal.loop-k-preserved
unfolding half_bit
loop-k-preserved c =
    let l = c.loop-k in
    (filled_turn 0 half_bit _ l.bits l.k _ (omega (arith, l.invariant.2)) refl l.invariant.0, search rules, l.invariant.2)

pub returns : goal.returns
returns c =
    let l = c.loop-k in
    let e : l.k ≡ 64 = omega arith in
    filled_end 0 half_bit _ l.bits 64 l.invariant.2 (rw e at l.invariant.0)
