-- `block_in` meets its contract. Assumes nothing.
use Rattle.check_blocks.proofs.Back.{read_again, came_back}
use Rattle.check_blocks.proofs.blocks.block_in.Goals as goal

pub read_several-given-requires : goal.read_several-given-requires
read_several-given-requires c =
    let w = c in
    read_again w.requires.read w.code_block.auto.out

pub returns : goal.returns
returns c =
    let r = c in
    let w = r in
    let d = w in
    let start = d in
    let lent = start.requires in
    came_back start.args.x
    lent.read lent.counted lent.drawn.long d.block-x.ensures.0 d.block-x.ensures.1 w.code_block.auto.out w.code_block.ensures r.read_several-given.ensures c.digest_of-digest.ensures
