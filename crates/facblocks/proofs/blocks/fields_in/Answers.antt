-- `fields_in` meets its contract. Assumes nothing.
use mathlib.Core.Path.{ap, ◌∙◌}
use Rattle.crc.specs.Bits.{numbers_in}
use Rattle.facblocks.specs.Fields.{widths, fields_among}
use Rattle.facblocks.specs.Block.{parameter_bits, fields_in}
use Rattle.facblocks.proofs.blocks.fields_in.Goals as goal

pub returns : goal.returns
unfolding fields_in parameter_bits
returns c =
    c.fields_among.ensures
    ∙ ap fields_among (c.split.ensures ∙ ap (numbers_in widths) c.word_of.ensures)
