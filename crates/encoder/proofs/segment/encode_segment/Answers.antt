-- `encode_segment` meets its contract. Assumes nothing.
use borrow.Author.Rules.{rules}
use Rattle.encoder.proofs.Parts.{head_encodes, head_done, segment_done}
use Rattle.encoder.proofs.segment.encode_segment.Goals as goal

pub encode_columns-front-requires : goal.encode_columns-front-requires
encode_columns-front-requires c = head_encodes c.requires.0 (search rules)

pub encode_blocks-requires : goal.encode_blocks-requires
encode_blocks-requires c =
    let f = c in head_done f.requires.0 (search rules) f.encode_columns-front.ensures f.requires.1

pub returns : goal.returns
returns c =
    let f = c in
    segment_done f.requires.0 (search rules) f.encode_columns-front.ensures c.encode_blocks.ensures
