-- What `desk preview` shows of a super frame. 02, S-3.
use Rattle.std.specs.Prelude.{ℕ, cond, List, eqb}
use Rattle.settings.specs.Sizes.{sizes_of}
use Rattle.superframe.specs.declared.State.{State}
use Rattle.previewcall.specs.Preview.{PreviewYield, preview_of}
use Rattle.console.specs.declared.Job.TheVariants.{Code}
use Rattle.turns.specs.Yield.{MadeYield, refused, answered}
use Rattle.jobs.specs.Output.{cell_output}
use Rattle.jobs.specs.SuperFrame.{code_lent, job_refusal, job_of}

-- The cells of a preview, or its refusal.
unfoldable pub preview_written : PreviewYield → List ℕ → MadeYield
preview_written y out = answered y.done.refusal (cell_output y.faccells y.sdccells y.msccells) out

-- 1 to 10 as `code`, so 9 for bytes that are not one super frame; else what a preview of these bytes yields, as the super frame that `code` would write.
unfoldable pub shown_of : State → List ℕ → List ℕ → List ℕ → MadeYield
shown_of state memory bytes out =
    cond (eqb (job_refusal Code state memory bytes out) 0)
    (preview_written (preview_of state memory (code_lent (sizes_of state.scheme.settings) bytes)) out)
    (refused (job_refusal Code state memory bytes out) out)

-- The working copy of the memory is left as `code` leaves its own.
unfoldable pub copy_after : State → List ℕ → List ℕ → List ℕ → List ℕ
copy_after state memory bytes out = (job_of Code state memory bytes out).memory
