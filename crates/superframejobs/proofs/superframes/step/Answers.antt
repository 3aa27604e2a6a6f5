use mathlib.Core.Path.{refl, ◌∙◌}
use Rattle.refusal.proofs.Positive.{number_positive}
use native.Mathlib.Omega.{arith}
use Rattle.console.specs.declared.Job.TheVariants.{Code, Read, ReadOn, Grid, Ungrid}
use Rattle.jobs.proofs.JobRefusals.{job_refused, job_lent}
use Rattle.superframejobs.proofs.superframes.step.Goals as goal

pub returns-in-Err-clause-out_after : goal.returns-in-Err-clause-out_after
returns-in-Err-clause-out_after c =
    let a = c.args in
    c.refused.ensures.by_index a.memory.now a.out.now
    ∙ job_refused a.job a.state a.memory.now a.bytes.now a.out.now _ c.in-Err.ensures.refused (λ h. omega (arith, h, number_positive c.in-Err.refusal))

pub code_bytes-requires : goal.code_bytes-requires
code_bytes-requires c =
    let a = c.args in
    job_lent a.job a.state a.memory.now a.bytes.now a.out.now _ c.in-Ok.ensures.refused refl _ c.in-Ok.ensures.sizes Code c.in-Code.is

pub read_bytes-requires : goal.read_bytes-requires
read_bytes-requires c =
    let a = c.args in
    job_lent a.job a.state a.memory.now a.bytes.now a.out.now _ c.in-Ok.ensures.refused refl _ c.in-Ok.ensures.sizes Read c.in-Read.is

pub read_bytes-requires-in-ReadOn : goal.read_bytes-requires-in-ReadOn
read_bytes-requires-in-ReadOn c =
    let a = c.args in
    job_lent a.job a.state a.memory.now a.bytes.now a.out.now _ c.in-Ok.ensures.refused refl _ c.in-Ok.ensures.sizes ReadOn c.in-ReadOn.is

pub place_bytes-requires : goal.place_bytes-requires
place_bytes-requires c =
    let a = c.args in
    job_lent a.job a.state a.memory.now a.bytes.now a.out.now _ c.in-Ok.ensures.refused refl _ c.in-Ok.ensures.sizes Grid c.in-Grid.is

pub take_bytes-requires : goal.take_bytes-requires
take_bytes-requires c =
    let a = c.args in
    job_lent a.job a.state a.memory.now a.bytes.now a.out.now _ c.in-Ok.ensures.refused refl _ c.in-Ok.ensures.sizes Ungrid c.in-Ungrid.is
