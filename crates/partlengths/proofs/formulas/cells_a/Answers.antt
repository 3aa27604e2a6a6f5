use mathlib.Core.Path.{ap}
use Prim.Native.Nat.{◌*◌}
use native.Mathlib.Omega.{arith}
use Rattle.partlengths.proofs.PartA.{Step, a-step, step_low, is_cells_a, common_low}
use Rattle.partlengths.proofs.formulas.cells_a.Goals as goal

pub overflow_cast-step : goal.overflow_cast-step
overflow_cast-step c =
    let low = common_low c.args.msc c.args.level c.requires in
    omega arith

pub shares-gain-requires : goal.shares-gain-requires
shares-gain-requires c =
    let low = common_low c.args.msc c.args.level c.requires in
    omega arith

step : (c : goal.After-shares-gain)
    → Step c.args.msc c.args.level c.common_denominator-step.result
    c.shares-gain.result
step c =
    a-step _ _ _ _ _ c.requires c.common_denominator-step.ensures c.coded.ensures.value
    c.coded.ensures.upper_bound c.shares-gain.ensures

pub round_up-requires : goal.round_up-requires
round_up-requires c = let s = step c in omega arith

pub overflow_mul-result : goal.overflow_mul-result
overflow_mul-result c =
    let s = step c.before in
    let low =
    step_low (8 * c.args.x) c.shares-gain.result
    c.common_denominator-step.result (omega arith) s.few s.low
    in
    omega (arith, ap (λ q. q * c.common_denominator-step.result) c.round_up.ensures)

pub returns : goal.returns
returns c = is_cells_a _ _ _ _ c.args.x _ (step c.before) c.round_up.ensures
