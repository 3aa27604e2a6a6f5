-- `calls::take` meets its contract. Assumes nothing.
use mathlib.Core.Path.{refl}
use Rattle.placing.specs.Clauses.{cells_from}
use native.Mathlib.Omega.{arith}
use Rattle.std.proofs.lemmas.Grind.{common_steps}
use Rattle.refusal.proofs.Positive.{number_positive}
use Rattle.grid.proofs.Accepts.{take-refused, take-fits, take_done}
use Rattle.grid.proofs.calls.take.Goals as goal

pub take_accepted-requires : goal.take_accepted-requires
take_accepted-requires c =
    let b = c in
    let a = b in
    take-fits _ (cells_from a.args.fac.now a.args.sdc.now a.args.msc.now) _ _ c.in_ok-check.ensures refl

pub returns : goal.returns
returns c =
    let p = c in
    let b = p in
    let a = b in
    take_done _ _ _ (take-fits _ (cells_from a.args.fac.now a.args.sdc.now a.args.msc.now) _ _ c.in_ok-check.ensures refl) _ p.take_accepted.ensures

pub returns-in_err-check : goal.returns-in_err-check
returns-in_err-check c =
    let e = take-refused _ (cells_from c.args.fac.now c.args.sdc.now c.args.msc.now) _ _ c.in_err-check.ensures (λ h. omega (arith, number_positive c.in_err-check.field-0.0)) in
    grind (arith, common_steps, e)
