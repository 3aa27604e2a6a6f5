use mathlib.Core.Path.{ap, ◌∙◌}
use native.Mathlib.Omega.{arith}
use Rattle.partlengths.specs.Formulas.{part_vspp}
use Rattle.settings.specs.Lengths.{n_mux, n1, l_vspp}
use Rattle.channels.proofs.Made.{msc-made}
use Rattle.channels.proofs.blocks.msc_block.Goals as goal

pub overflow_cast-n : goal.overflow_cast-n
unfolding n_mux
overflow_cast-n c = omega (arith, c.n_mux-n.ensures, c.requires.settings.ranges.mux_most)

pub returns : goal.returns
unfolding n_mux n1 l_vspp
returns c =
    let l = c in
    let n = l in
    let s = n.args.s in
    msc-made s _ _ _ _ _ _ n.n_mux-n.ensures (l.part_vspp.ensures ∙ ap (part_vspp s.settings.msc s.settings.vspp) n.n_mux-n.ensures) l.msc_levels.ensures
    c.level_count.ensures c.msc_constellation.ensures c.cells_a.ensures
