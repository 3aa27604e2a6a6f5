-- `read::read_part` meets its contract. Assumes nothing.
use Rattle.level.proofs.OneRead.{part-read}
use Rattle.level.proofs.read.read_part.Goals as goal

pub returns : goal.returns
returns c = let both = part-read c.requires c.take_part.new.out c.take_part.auto.out c.take_part.ensures c.decode-coder.ensures in record { part_read = both.0; coded_after = both.1 }
