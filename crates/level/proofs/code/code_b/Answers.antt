-- `code::code_b` meets its contract. Assumes nothing.
use Rattle.level.proofs.OneLevel.{adds_b, coded-b}
use Rattle.level.proofs.code.code_b.Goals as goal

pub add_part-requires : goal.add_part-requires
add_part-requires c = adds_b c.requires c.encode_b.ensures

pub returns : goal.returns
returns c = record { labels_after = coded-b c.requires c.encode_b.ensures c.add_part.ensures; coded_after = c.encode_b.ensures }
