-- `code_streams` meets its contract. Assumes nothing.
use mathlib.Core.Path.{sym, ◌∙◌}
use Rattle.block.specs.Block.{one_axis}
use Rattle.multilevel.proofs.Totals.{sums-front}
use Rattle.blockcoder.proofs.Coding.{part-a, codes-parts, both_cells, axis-cells, bits_left}
use Rattle.blockcoder.proofs.code.code_streams.Goals as goal

pub bits_before-at-requires : goal.bits_before-at-requires
bits_before-at-requires c = sums-front c.requires.0.fits

pub slice_bounds-code_axes-end : goal.slice_bounds-code_axes-end
slice_bounds-code_axes-end c = part-a c.requires.0 c.bits_before-at.ensures

pub code_axes-requires : goal.code_axes-requires
unfolding one_axis
code_axes-requires c = (codes-parts c.requires.0 c.bits_before-at.ensures c.requires.1, sym c.one_axis.ensures ∙ c.if-one_axis.true)

pub returns-then-one_axis : goal.returns-then-one_axis
unfolding one_axis
returns-then-one_axis c = record { out_after = axis-cells c.requires.0 c.bits_before-at.ensures (sym c.one_axis.ensures ∙ c.if-one_axis.true) c.code_axes.ensures.out_after; bits_left = bits_left c.requires.0 c.bits_before-at.ensures c.code_axes.ensures.parts_left }

pub slice_bounds-code_both-end : goal.slice_bounds-code_both-end
slice_bounds-code_both-end c = part-a c.requires.0 c.bits_before-at.ensures

pub code_both-requires : goal.code_both-requires
unfolding one_axis
code_both-requires c = (codes-parts c.requires.0 c.bits_before-at.ensures c.requires.1, sym c.one_axis.ensures ∙ c.if-one_axis.false)

pub returns : goal.returns
unfolding one_axis
returns c = record { out_after = both_cells c.requires.0 c.bits_before-at.ensures (sym c.one_axis.ensures ∙ c.if-one_axis.false) c.code_both.ensures.out_after; bits_left = bits_left c.requires.0 c.bits_before-at.ensures c.code_both.ensures.parts_left }
