-- `level_labels` meets its contract. Assumes nothing.
use mathlib.Core.Path.{sym, ◌∙◌}
use Rattle.lists.proofs.Parts.{length-start}
use Rattle.block.specs.Block.{one_axis}
use Rattle.candidate.proofs.CellsRead.{cells_low, axis-made, unmaps, both_made}
use Rattle.candidate.proofs.read.level_labels.Goals as goal

pub returns-then-one_axis : goal.returns-then-one_axis
unfolding one_axis
returns-then-one_axis c = axis-made c.requires (sym c.one_axis.ensures ∙ c.if-one_axis.true) c.unmap_axis.auto.out c.unmap_axis.ensures

pub unmap_cells-requires : goal.unmap_cells-requires
unfolding one_axis
unmap_cells-requires c = let p = c.requires in unmaps p (sym c.one_axis.ensures ∙ c.if-one_axis.false) (length-start _ _ (cells_low p))

pub returns : goal.returns
unfolding one_axis
returns c = both_made c.requires (sym c.one_axis.ensures ∙ c.if-one_axis.false) c.unmap_cells.auto.out c.unmap_cells.ensures
