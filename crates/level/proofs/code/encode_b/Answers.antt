-- `code::encode_b` meets its contract: the tail is coded behind part B. Assumes nothing.
use Rattle.component.proofs.Codeword.{tail_is}
use Rattle.level.proofs.Parts.{tail_encodes, tail_encoded}
use Rattle.level.proofs.code.encode_b.Goals as goal

pub encode-requires : goal.encode-requires
encode-requires c = rw tail_is at (tail_encodes c.requires c.encode-coder.ensures)

pub returns : goal.returns
returns c = tail_encoded c.requires c.encode-coder.ensures (rw (← tail_is) at c.encode.ensures)
