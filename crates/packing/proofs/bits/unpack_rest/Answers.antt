-- `unpack_rest` meets its contract. Assumes nothing.
use mathlib.Core.Path.{refl}
use borrow.Author.Rules.{rules}
use Rattle.lists.proofs.Tables.{filled_turn}
use Rattle.block.specs.Packing.{bit_at}
use Rattle.packing.proofs.Unpacking.{rest_end}
use Rattle.packing.proofs.bits.unpack_rest.Goals as goal

pub loop-i-preserved : goal.loop-i-preserved
unfolding bit_at
loop-i-preserved c =
    let l = c.loop-i in
    (filled_turn 0 _ _ l.out l.i _ (search rules) refl l.invariant.0, search rules)

pub returns : goal.returns
returns c = let l = c.loop-i in rest_end _ _ l.out _ l.i l.invariant.0 l.invariant.1 (search rules)
