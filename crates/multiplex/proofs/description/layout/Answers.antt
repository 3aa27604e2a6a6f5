-- `layout` meets its contract. Assumes nothing.
use native.Mathlib.Omega.{arith}
use borrow.Author.Rules.{rules}
use Rattle.settings.proofs.Bounds.{accepted_of}
use Rattle.multiplex.proofs.Layouts.{uncounted_low, uncounted_inside, counted_few, layout_made}
use Rattle.multiplex.proofs.description.layout.Goals as goal

pub offset_bounds-description-first : goal.offset_bounds-description-first
offset_bounds-description-first c = omega (arith, c.uncounted-first.ensures, uncounted_low c.args.s.msc)

pub slice_bounds-sums-count : goal.slice_bounds-sums-count
slice_bounds-sums-count c = uncounted_inside c.args.s c.args.description.now c.requires.s_value c.requires.description_value c.uncounted-first.ensures

pub slice_bounds-sums-start : goal.slice_bounds-sums-start
slice_bounds-sums-start c = uncounted_inside c.args.s c.args.description.now c.requires.s_value c.requires.description_value c.uncounted-first.ensures

pub sums-all-requires : goal.sums-all-requires
sums-all-requires c = counted_few c.args.s c.args.description.now c.requires.s_value c.requires.description_value c.uncounted-first.ensures

pub all_lengths-l-requires : goal.all_lengths-l-requires
all_lengths-l-requires c = accepted_of _ c.requires.s_value

pub returns : goal.returns
returns c =
    let s = c in
    let both = layout_made s.args.s s.args.description.now s.requires.s_value s.requires.description_value c.all_lengths-l.ensures c.uncounted-first.ensures c.head_bytes-head.ensures (search rules) c.sums-all.ensures.value c.sums-all.ensures.a_bound in record { value = both.0; small = both.1 }
