-- `refusal::frames_spare` meets its contract. The loop's invariant: passed tells whether the frames before i have no spare bit set. Assumes nothing.
use Prim.Native.Nat.{ℕ}
use mathlib.Core.Path.{◌≡◌, ◌∙◌, sym, ap}
use mathlib.Core.List.{List, map}
use borrow.Author.Rules.{rules}
use Rattle.lists.specs.Lists.{table}
use Rattle.block.specs.Packing.{spare_zero}
use Rattle.lists.specs.Bools.{every}
use Rattle.superframe.specs.Call.{part, parts}
use Rattle.lists.proofs.Tables.{map-table}
use Rattle.lists.proofs.Tests.{passed_turn, passed_end}
use Rattle.superframe.proofs.Laid.{part_is}
use Rattle.callrefusals.proofs.refusals.frames_spare.Invariants.{frame-spare}
use Rattle.callrefusals.proofs.refusals.frames_spare.Goals as goal

spares : (bits bytes : ℕ) (msc : List ℕ) → every (table (frame-spare bits bytes msc) 0 3) ≡ every (map (spare_zero bits) (parts bytes msc))
unfolding parts
spares bits bytes msc = ap every (sym (map-table (spare_zero bits) (part bytes msc) 0 3))

pub loop-i-preserved : goal.loop-i-preserved
loop-i-preserved c =
    passed_turn _ 3 _ _ c.spare_zero-passed.result (search rules) (c.spare_zero-passed.ensures ∙ ap (spare_zero _) (part_is _ _ _))
    c.loop-i.invariant

pub returns : goal.returns
returns c = passed_end _ 3 _ _ c.loop-i-test.false c.loop-i.invariant ∙ spares _ _ _
