-- `read::read_kept` meets its contract. Assumes nothing.
use mathlib.Core.Path.{ap, ◌∙◌}
use native.Mathlib.Omega.{arith}
use borrow.Author.Rules.{rules}
use lib.ListN.{length}
use Rattle.lists.proofs.Parts.{length-start}
use Rattle.readoncall.proofs.OnParts.{front_in, front_is, kept_long, cells_most, cells-kept, blocks_lent, blocks_kept}
use Rattle.readoncall.proofs.read.read_kept.Goals as goal

pub slice_bounds-kept-end : goal.slice_bounds-kept-end
slice_bounds-kept-end c = let h = cells_most _ _ _ _ _ _ _ _ c.requires in search rules

pub keep_cells-requires : goal.keep_cells-requires
keep_cells-requires c =
    let p = c.requires in
    cells-kept _ _ _ _ _ _ _ _ p _ (length-start _ _ (omega (arith, cells_most _ _ _ _ _ _ _ _ p, c.buffer-kept.ensures.long)))

pub slice_bounds-read_blocks-end : goal.slice_bounds-read_blocks-end
slice_bounds-read_blocks-end c = let k = c.keep_cells in front_in _ k.new.out _ (ap length k.ensures ∙ kept_long _ _)

pub read_blocks-requires : goal.read_blocks-requires
read_blocks-requires c = let e = c.keep_cells.ensures in blocks_lent _ _ _ _ _ _ _ _ c.requires _ (front_is _ _ _ (ap length e ∙ kept_long _ _) ∙ e)

pub returns : goal.returns
returns c = let e = c.keep_cells.ensures in blocks_kept _ _ _ _ _ _ _ _ _ (front_is _ _ _ (ap length e ∙ kept_long _ _) ∙ e) _ _ _ _ _ c.read_blocks.ensures
