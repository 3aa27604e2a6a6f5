-- `spare_zero` meets its contract. Assumes nothing.
use mathlib.Core.Path.{◌∙◌}
use borrow.Author.Rules.{rules}
use Rattle.block.specs.Packing.{bit_at}
use Rattle.packing.proofs.Spare.{spare_set, spare_clear, spare_none}
use Rattle.packing.proofs.bits.spare_zero.Goals as goal

pub returns-then-bytes-i-ne0 : goal.returns-then-bytes-i-ne0
unfolding bit_at
returns-then-bytes-i-ne0 c =
    let l = c.loop-i in
    spare_set _ l.i (search rules) c.if-bytes-i-ne0.true ∙ l.invariant

pub loop-i-preserved : goal.loop-i-preserved
unfolding bit_at
loop-i-preserved c =
    let l = c.loop-i in
    spare_clear _ l.i (search rules) c.if-bytes-i-ne0.false ∙ l.invariant

pub returns : goal.returns
returns c = let l = c.loop-i in spare_none _ l.i (search rules) ∙ l.invariant
