-- `block_from` meets its contract. Assumes nothing.
use Rattle.facblocks.proofs.Words.{bytes_packed}
use Rattle.facblocks.proofs.word.block_from.Goals as goal

pub returns : goal.returns
returns c = bytes_packed c.args.word _ _ c.to_be_bytes.ensures c.crc.ensures
