-- The places filled so far, and then those that are left, are all of them.
use mathlib.Core.Path.{◌≡◌, ◌∙◌, ap}
use native.Mathlib.Omega.{arith}
use lib.ListN.{length, length-replicate}
use Rattle.lists.proofs.Tables.{filled_end}
use Rattle.block.specs.Block.{no_level}
use Rattle.channels.specs.Msc.{msc_levels}
use Rattle.channels.proofs.Msc.{few_of}
use Rattle.channels.proofs.Made.{six-table}
use Rattle.channels.proofs.blocks.Accepted.msc_levels.Goals as goal

pub returns : goal.returns
returns c =
    let l = c in
    let s = l in
    let e : l.loop-i.i ≡ 6 = omega arith in
    filled_end no_level _ _ _ 6 (ap length l.no_levels-levels.ensures ∙ length-replicate 6 no_level) (rw e at l.loop-i.invariant) ∙ six-table (msc_levels s.args.self.scheme) (few_of s.args.self.known)
