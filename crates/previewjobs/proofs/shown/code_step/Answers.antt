use mathlib.Core.Path.{refl, ◌∙◌}
use native.Mathlib.Omega.{arith}
use Rattle.refusal.proofs.Positive.{number_positive}
use Rattle.console.specs.declared.Job.TheVariants.{Code}
use Rattle.jobs.proofs.JobRefusals.{job_refused, job_called, job_lent}
use Rattle.previewjobs.proofs.shown.code_step.Goals as goal

pub returns-in-Err : goal.returns-in-Err
returns-in-Err c =
    let a = c.args in
    let r = c.refused.ensures in
    record { out_after = r.by_index a.memory.now a.out.now ∙ job_refused Code a.state a.memory.now a.bytes.now a.out.now _ c.in-Err.ensures.refused (λ h. omega (arith, h, number_positive c.in-Err.refusal)); length_in_bounds = rw r.nothing_written tt }

pub code_bytes-requires : goal.code_bytes-requires
code_bytes-requires c =
    let a = c.args in
    job_lent Code a.state a.memory.now a.bytes.now a.out.now _ c.in-Ok.ensures.refused refl _ c.in-Ok.ensures.sizes Code refl

pub returns-in-Ok : goal.returns-in-Ok
returns-in-Ok c =
    let a = c.args in
    let w = c.code_bytes.ensures in
    record { out_after = job_called Code a.state a.memory.now a.bytes.now a.out.now _ c.in-Ok.ensures.refused refl _ Code refl w.out_after; length_in_bounds = w.length_in_bounds }
