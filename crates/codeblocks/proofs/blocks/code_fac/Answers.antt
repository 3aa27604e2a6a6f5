-- `blocks::code_fac` meets its contract. Assumes nothing.
use mathlib.Core.Path.{◌∙◌}
use Rattle.codeblocks.proofs.CodeTurns.{fac_blocks, fac-bytes, three_blocks}
use Rattle.codeblocks.proofs.blocks.code_fac.Goals as goal

pub code_blocks-requires : goal.code_blocks-requires
code_blocks-requires c = rw c.fac_block.ensures (fac_blocks _ c.requires.0 c.requires.1 c.requires.2)

pub returns : goal.returns
returns c = rw c.fac_block.ensures at c.code_blocks.ensures ∙ three_blocks _ _ 9 (fac-bytes _)
