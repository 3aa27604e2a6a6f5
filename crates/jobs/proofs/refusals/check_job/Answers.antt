use Rattle.std.proofs.lemmas.Result.{err_from_is_err_and}
use Rattle.jobs.proofs.JobRefusals.{job_early, job_late, job_sizes}
use Rattle.jobs.proofs.refusals.check_job.Goals as goal

pub returns-in_err-z-clause-refused : goal.returns-in_err-z-clause-refused
returns-in_err-z-clause-refused c =
    let p = err_from_is_err_and c.from_residual.result c.from_residual.ensures.1 in
    rw (p.1, p.2) (job_early _ _ _ _ _ _ c.in_err-z.ensures.refused)

pub returns-in_err-check_lengths-clause-refused : goal.returns-in_err-check_lengths-clause-refused
returns-in_err-check_lengths-clause-refused c =
    let f = c.from_residual-in_err-check_lengths in
    let p = err_from_is_err_and f.result f.ensures.1 in
    let z = c.in_ok-z.ensures in
    rw (p.1, p.2) (job_late _ _ _ _ _ _ _ _ _ _ z.refused z.sizes c.grid_length-grid.ensures c.input_length.ensures c.output_length.ensures c.in_err-check_lengths.ensures)

pub returns-clause-refused : goal.returns-clause-refused
returns-clause-refused c =
    let z = c.in_ok-z.ensures in
    job_late _ _ _ _ _ _ _ _ _ _ z.refused z.sizes c.grid_length-grid.ensures c.input_length.ensures c.output_length.ensures c.in_ok-check_lengths.ensures

pub returns-clause-sizes : goal.returns-clause-sizes
returns-clause-sizes c = let z = c.in_ok-z.ensures in job_sizes c.args.job c.args.state c.args.memory.now c.args.bytes.now c.args.out.now _ z.refused z.sizes
