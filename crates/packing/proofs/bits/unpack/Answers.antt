-- `unpack` meets its contract. Assumes nothing.
use borrow.Author.Rules.{rules}
use Rattle.packing.proofs.Unpacking.{unpacked_both}
use Rattle.packing.proofs.bits.unpack.Goals as goal

pub returns : goal.returns
returns c =
    let b = c in
    unpacked_both _ _ _ (search rules) b.unpack_whole.ensures c.unpack_rest.ensures
