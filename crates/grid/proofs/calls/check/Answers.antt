-- `calls::check` meets its contract. Assumes nothing.
use mathlib.Core.Path.{refl}
use native.Mathlib.Omega.{arith}
use Rattle.settings.specs.Lengths.{n_sdc, n_sfa}
use Rattle.std.proofs.lemmas.Grind.{common_steps}
use Rattle.refusal.proofs.Positive.{number_positive}
use Rattle.refusal.specs.Numbers.{number}
use Rattle.grid.proofs.Accepts.{sized, long, refused_settings, refused-cells, refused_grid, not-refused}
use Rattle.grid.proofs.calls.check.Goals as goal

pub overflow_mul-sdc_fits : goal.overflow_mul-sdc_fits
unfolding n_sdc
overflow_mul-sdc_fits c =
    let b = c in
    let l = long _ (sized _ _ (c.in_ok-z.ensures) refl) in
    omega (arith, c.n_sdc.ensures)

pub overflow_mul-msc_fits : goal.overflow_mul-msc_fits
unfolding n_sfa
overflow_mul-msc_fits c =
    let b = c in
    let l = long _ (sized _ _ (c.in_ok-z.ensures) refl) in
    omega (arith, c.n_sfa.ensures)

pub returns-then-not-fac-sdc_fits : goal.returns-then-not-fac-sdc_fits
unfolding n_sdc n_sfa
returns-then-not-fac-sdc_fits c =
    let b = c in
    refused-cells _ _ (c.in_ok-z.ensures) _ _ _ _ _ _ _ refl b.n_sdc.ensures c.n_sfa.ensures c.if-not-fac-sdc_fits.true

pub returns-then-grid-z : goal.returns-then-grid-z
unfolding n_sdc n_sfa
returns-then-grid-z c =
    let t = c in
    let b = t in
    refused_grid _ _ (c.in_ok-z.ensures) _ _ _ _ _ _ _ refl b.n_sdc.ensures t.n_sfa.ensures t.if-not-fac-sdc_fits.false c.if-grid-z.true

pub returns : goal.returns
unfolding n_sdc n_sfa
returns c =
    let t = c in
    let b = t in
    not-refused _ _ (c.in_ok-z.ensures) _ _ _ _ _ _ _ refl b.n_sdc.ensures t.n_sfa.ensures t.if-not-fac-sdc_fits.false c.if-grid-z.false

pub returns-in_err-z : goal.returns-in_err-z
returns-in_err-z c =
    let r = c.in_err-z.field-0.0 in
    let e = refused_settings _ _ c.in_err-z.ensures (number c.args.cells) c.args.fac c.args.sdc c.args.msc c.args.grid (λ h. omega (arith, number_positive r)) in
    grind (arith, common_steps, e)
