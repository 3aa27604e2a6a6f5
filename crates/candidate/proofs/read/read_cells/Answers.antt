-- `read_cells` meets its contract. Assumes nothing.
use mathlib.Core.Path.{sym, ◌∙◌}
use Rattle.block.specs.Block.{one_axis}
use Rattle.candidate.proofs.CellsRead.{both_bits, both_left, axes-bits, axes-left}
use Rattle.candidate.proofs.read.read_cells.Goals as goal

pub returns-then-not-one_axis : goal.returns-then-not-one_axis
unfolding one_axis
returns-then-not-one_axis c =
    let b = c in
    let p = b.requires in
    let r = b.read_axis.ensures in
    let one = sym c.one_axis.ensures ∙ c.if-not-one_axis.true in
    record { bits_after = both_bits p one r.levels_read; levels_taken = both_left p one r.labels_after r.coded_after }

pub returns : goal.returns
unfolding one_axis
returns c =
    let b = c in
    let p = b.requires in
    let r = b.read_axis.ensures in
    let s = c.read_axis-2.ensures in
    let one = sym c.one_axis.ensures ∙ c.if-not-one_axis.false in
    record { bits_after = axes-bits p one r.levels_read s.levels_read; levels_taken = axes-left p one r.labels_after s.labels_after r.coded_after s.coded_after }
