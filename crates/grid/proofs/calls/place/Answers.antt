-- `calls::place` meets its contract. Assumes nothing.
use mathlib.Core.Path.{refl}
use Rattle.placing.specs.Clauses.{cells_from}
use native.Mathlib.Omega.{arith}
use Rattle.std.proofs.lemmas.Grind.{common_steps}
use Rattle.refusal.proofs.Positive.{number_positive}
use Rattle.grid.proofs.Accepts.{place-refused, place-fits, place_done}
use Rattle.grid.proofs.calls.place.Goals as goal

pub place_accepted-requires : goal.place_accepted-requires
place_accepted-requires c =
    let b = c in
    let a = b in
    place-fits _ (cells_from a.args.fac.now a.args.sdc.now a.args.msc.now) _ _ c.in_ok-check.ensures refl

pub returns : goal.returns
returns c =
    let p = c in
    let b = p in
    let a = b in
    place_done _ _ _ (place-fits _ (cells_from a.args.fac.now a.args.sdc.now a.args.msc.now) _ _ c.in_ok-check.ensures refl) _ p.place_accepted.ensures

pub returns-in_err-check : goal.returns-in_err-check
returns-in_err-check c =
    let e = place-refused _ (cells_from c.args.fac.now c.args.sdc.now c.args.msc.now) _ _ c.in_err-check.ensures (λ h. omega (arith, number_positive c.in_err-check.field-0.0)) in
    grind (arith, common_steps, e)
