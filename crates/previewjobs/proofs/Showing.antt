-- What is shown is what Code would write. Assumes nothing.
use Prim.Native.Nat.{ℕ}
use mathlib.Core.Path.{◌≡◌, refl, ap, ◌∙◌}
use mathlib.Core.Bool.{Bool, true, false, cond}
use mathlib.Core.List.{List}
use lib.Dec.{eqb}
use Rattle.settings.specs.Sizes.{sizes_of}
use Rattle.superframe.specs.declared.State.{State}
use Rattle.superframe.specs.Code.{CodeYield, code_of}
use Rattle.previewcall.specs.Preview.{without_memory, preview_of}
use Rattle.console.specs.declared.Job.TheVariants.{Code}
use Rattle.turns.specs.Yield.{MadeYield, made_yield, through, refused, answered}
use Rattle.jobs.specs.Output.{cell_output}
use Rattle.jobs.specs.SuperFrame.{JobYield, through as Job·through, refused as Job·refused, answered as Job·answered, code_lent, code_written, job_call, job_refusal, job_of}
use Rattle.previewjobs.specs.Shown.{preview_written, shown_of, copy_after}

-- A job's yield without state and memory.
abbrev made : JobYield → MadeYield
made y = made_yield y.step.made y.out

made-answered : (b : Bool) (number : ℕ) (state : State) (memory bytes out : List ℕ) → made (cond b (Job·through state memory bytes out) (Job·refused number 0 state memory out)) ≡ cond b (through bytes out) (refused number out)
unfolding through refused Job·through Job·refused
made-answered true number state memory bytes out = refl
made-answered false number state memory bytes out = refl

made-coded : (y : CodeYield) (out : List ℕ) → made (code_written y out) ≡ preview_written (without_memory y) out
unfolding code_written Job·answered preview_written answered without_memory
made-coded y out =
    made-answered (eqb y.done.refusal 0) y.done.refusal y.done.state y.memory (cell_output y.faccells y.sdccells y.msccells) out

made-cond : (b : Bool) (x y : JobYield) (v w : MadeYield) → made x ≡ v → made y ≡ w → made (cond b x y) ≡ cond b v w
made-cond true x y v w e f = e
made-cond false x y v w e f = f

made-refused : (number : ℕ) (state : State) (memory out : List ℕ) → made (Job·refused number 0 state memory out) ≡ refused number out
unfolding refused Job·refused
made-refused number state memory out = refl

pub shown : (state : State) (memory bytes out : List ℕ) (y : JobYield) → y ≡ job_of Code state memory bytes out → made y ≡ shown_of state memory bytes out
unfolding job_of job_call shown_of preview_of
shown state memory bytes out y e =
    let r = job_refusal Code state memory bytes out in
    ap made e ∙ made-cond (eqb r 0) _ _ _ _ (made-coded (code_of state memory (code_lent (sizes_of state.scheme.settings) bytes)) out) (made-refused r state memory out)

pub copied : (state : State) (memory bytes out : List ℕ) (y : JobYield) → y ≡ job_of Code state memory bytes out → y.memory ≡ copy_after state memory bytes out
unfolding copy_after
copied state memory bytes out y e = ap (λ (z : JobYield). z.memory) e
