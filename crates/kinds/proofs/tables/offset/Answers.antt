use native.Mathlib.Omega.{arith}
use Rattle.kinds.specs.References.{spacing}
use Rattle.kinds.proofs.Bands.{mode_low, y_some, k0_most, step_low, spacing-some, offset_is}
use Rattle.kinds.proofs.tables.offset.Goals as goal

pub nonzero_rem-result : goal.nonzero_rem-result
nonzero_rem-result c = omega (arith, y_some _ (mode_low c.args.mode), c.gain_references-gains.ensures.y)

pub overflow_mul-result : goal.overflow_mul-result
overflow_mul-result c =
    let r = c.gain_references-gains.ensures in
    let low = step_low _ c.args.symbol _ _ (mode_low c.args.mode) r.x r.y in omega arith

pub overflow_add-result : goal.overflow_add-result
overflow_add-result c =
    let r = c.gain_references-gains.ensures in
    let low = step_low _ c.args.symbol _ _ (mode_low c.args.mode) r.x r.y in
    omega (arith, k0_most _ (mode_low c.args.mode), r.k0)

pub nonzero_rem-result-2 : goal.nonzero_rem-result-2
unfolding spacing
nonzero_rem-result-2 c = omega (arith, spacing-some _ (mode_low c.args.mode), c.gain_references-gains.ensures.spacing)

pub returns : goal.returns
returns c = offset_is _ c.args.symbol _ c.gain_references-gains.ensures
