-- `word_of` meets its contract. Assumes nothing.
use Rattle.facblocks.proofs.Words.{word_bits}
use Rattle.facblocks.proofs.word.word_of.Goals as goal

pub returns : goal.returns
returns c = word_bits c.args.block.now _ c.fits-block c.from_be_bytes.ensures
