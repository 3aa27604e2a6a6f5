-- The places filled so far, and then those that are left, are all of them.
use lib.ListN.{get_or}
use Rattle.lists.proofs.Tables.{Filled}
use Rattle.block.specs.Block.{no_level}
use Rattle.channels.specs.Msc.{msc_levels}
use Rattle.channels.proofs.blocks.Accepted.msc_levels.Given as goal

abbrev pub invariant-loop-i : goal.invariant-loop-i
invariant-loop-i l = Filled no_level (λ j. get_or (msc_levels l.self.scheme) j no_level) l.initial.levels l.levels l.i
