use mathlib.Core.Path.{refl}
use Rattle.patterns.specs.Clauses.{padded, pattern_from}
use Rattle.block.specs.Block.{no_level}
use Rattle.channels.proofs.blocks.no_level.Goals as goal

pub returns : goal.returns
unfolding no_level pattern_from padded
returns c = refl
