use Rattle.std.proofs.Common.{◌≡◌, length, refl, arith}
use Rattle.lists.proofs.Tables.{filled_end}
use Rattle.block.specs.Packing.{unpacked}
use Rattle.frameparts.proofs.bits.unpack.Goals as goal

pub returns : goal.returns
unfolding unpacked
returns c =
    let e : c.loop-i.i ≡ length c.args.out.now = omega arith in
    filled_end 0 _ _ c.loop-i.out _ refl (rw e at c.loop-i.invariant)
