-- `unpack_whole` meets its contract. Assumes nothing.
use mathlib.Core.Path.{refl}
use native.Mathlib.Omega.{arith}
use borrow.Author.Rules.{rules}
use Rattle.packing.proofs.Unpacking.{unpack_turn, unpack_end}
use Rattle.packing.proofs.bits.unpack_whole.Goals as goal

pub loop-k-preserved : goal.loop-k-preserved
loop-k-preserved c =
    let upper = c in
    let l = upper in
    let byte = c.type_inv.bytes l.loop-k.k in
    let w = unpack_turn _ l.half_bits-bits.ensures _ _ l.loop-k.out _ _ l.loop-k.k _ refl (omega (arith, byte))
    (omega (arith, upper.loop-k-test.true)) l.loop-k.invariant.0
    upper.put_half.ensures c.put_half-in-loop-k.ensures in
    (w, search rules, w.long)

pub returns : goal.returns
returns c = let l = c.loop-k in unpack_end _ _ l.out l.k l.invariant.0 (search rules) l.invariant.1 (search rules)
