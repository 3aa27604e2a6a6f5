use Rattle.std.proofs.Common.{sym, arith}
use Rattle.settings.specs.Lengths.{n_mux}
use Rattle.settings.proofs.Chain.{ranges_of}
use Rattle.settings.proofs.refusals.check.Goals as goal

pub cells_a-requires : goal.cells_a-requires
cells_a-requires c = (ranges_of c.args.s (sym c.in_ok-check_ranges.ensures)).part_a

pub overflow_sub-cells : goal.overflow_sub-cells
unfolding n_mux
overflow_sub-cells c =
    let least = (ranges_of c.args.s (sym c.in_ok-check_ranges.ensures)).mux_least in
    omega (arith, c.n_mux-cells.ensures)
