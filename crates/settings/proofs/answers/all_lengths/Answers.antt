use mathlib.Core.Path.{sym, subst}
use Prim.Native.Nat.{◌-◌}
use native.Mathlib.Omega.{arith}
use Rattle.partlengths.specs.Clauses.{Whole}
use Rattle.settings.specs.Lengths.{n_mux, n1}
use Rattle.settings.proofs.Bounds.{Found, found, is_accepted, Short, short}
use Rattle.settings.proofs.answers.all_lengths.Goals as goal

pub overflow_sub-n2 : goal.overflow_sub-n2
unfolding n_mux n1
overflow_sub-n2 c = omega (arith, c.requires.n1_most, c.n_mux-cells.ensures, c.cells_a-n1.ensures)

pub part_a-l1-requires : goal.part_a-l1-requires
unfolding n1
part_a-l1-requires c =
    subst (Whole c.args.s.msc c.args.s.levela) (sym c.cells_a-n1.ensures) c.requires.part

pub overflow_cast-cells : goal.overflow_cast-cells
unfolding n_mux
overflow_cast-cells c = omega (arith, c.n_mux-cells.ensures, c.requires.ranges.mux_most)

all : (c : goal.After-part_vspp-vspp)
    → Found c.args.s c.n_mux-cells.result c.cells_a-n1.result
    (c.n_mux-cells.result - c.cells_a-n1.result)
    c.part_a-l1.result c.part_b-l2.result c.part_vspp-vspp.result
all c =
    found c.args.s _ _ _ _ _ c.n_mux-cells.ensures
    c.cells_a-n1.ensures c.part_a-l1.ensures c.part_b-l2.ensures c.part_vspp-vspp.ensures

low : (c : goal.After-part_vspp-vspp) → Short c.args.s
low c = short _ c.requires

pub overflow_cast-n1 : goal.overflow_cast-n1
unfolding n_mux n1
overflow_cast-n1 c = omega (arith, c.cells_a-n1.ensures, c.requires.n1_most, c.requires.ranges.mux_most)

pub overflow_cast-result : goal.overflow_cast-result
overflow_cast-result c = omega (arith, (all c).is_l1, (low c).l1_short)

pub overflow_cast-result-2 : goal.overflow_cast-result-2
overflow_cast-result-2 c = omega (arith, (all c).is_l2, (low c).l2_short)

pub overflow_cast-result-3 : goal.overflow_cast-result-3
overflow_cast-result-3 c = omega (arith, (all c).is_vspp, (low c).vspp_short)

pub returns : goal.returns
returns c = is_accepted _ _ _ _ _ _ _ (all c)
