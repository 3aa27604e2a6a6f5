-- `pack` meets its contract. Assumes nothing.
use mathlib.Core.Path.{◌≡◌}
use native.Mathlib.Omega.{arith}
use lib.ListN.{length}
use Rattle.lists.proofs.Tables.{filled_end}
use Rattle.block.specs.Packing.{packed}
use Rattle.lists.specs.Bytes.{bytes_for}
use Rattle.packing.proofs.bits.pack.Goals as goal

-- a byte's first bit is one that can be counted
pub byte_from-requires : goal.byte_from-requires
unfolding bytes_for
byte_from-requires c = let P = c.requires in (P.input, omega (arith, P.same, P.few))

pub overflow_mul-k : goal.overflow_mul-k
unfolding bytes_for
overflow_mul-k c = let P = c.requires in omega (arith, P.same, P.few)

pub returns : goal.returns
unfolding packed
returns c =
    let l = c.loop-k in
    let P = c.requires in
    let e : l.k ≡ bytes_for (length c.args.bits.now) = omega (arith, P.same, l.invariant.1) in
    filled_end 0 _ _ l.out _ P.same (rw e at l.invariant.0)
