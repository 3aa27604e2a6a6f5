-- `start::lay_frame` meets its contract. The loop's invariant: the frame is in the slots before i. Assumes nothing.
use mathlib.Core.Path.{◌∙◌, ap}
use borrow.Author.Rules.{rules}
use lib.ListN.{length}
use Rattle.cellbytes.proofs.CellBytes.{length-bytes}
use Rattle.superframe.specs.Call.{joined}
use Rattle.superframe.proofs.Laid.{laid-part, laid-parts}
use Rattle.startcells.proofs.ZeroFrames.{table_same}
use Rattle.startcells.proofs.start.lay_frame.Goals as goal

pub loop-i-preserved : goal.loop-i-preserved
loop-i-preserved c =
    let l = c.loop-i.invariant in
    let e = c.to_bytes.ensures in
    (search rules, search rules, search rules, laid-part _ _ _ _ _ _ _ _ l.3 c.loop-i-test.true l.2 e (ap length e ∙ length-bytes _))

pub returns : goal.returns
returns c =
    let l = c.loop-i.invariant in
    laid-parts _ _ _ _ _ _ _ c.loop-i-test.false l.0 l.2 l.3 ∙ ap joined (table_same _ 0 _)
