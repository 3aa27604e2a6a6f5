-- The call of Code that the job `code` makes of its buffers.
use Prim.Native.Nat.{ℕ, ◌+◌, ◌-◌, ◌*◌, ◌≤◌}
use mathlib.Core.Path.{◌≡◌, ap, ◌∙◌}
use mathlib.Core.List.{List}
use native.Mathlib.Omega.{arith}
use lib.ListN.{length, take, drop, replicate, length-replicate}
use lib.IntN.{ℤ, pos}
use Rattle.std.proofs.lemmas.List.{drop-drop}
use Rattle.settings.specs.Sizes.{SizesYield, sizes_of}
use Rattle.superframe.specs.declared.State.{State}
use Rattle.superframe.specs.Code.{CodeCall, code_of}
use Rattle.superframe.specs.Clauses.{code_call}
use Rattle.console.specs.declared.Job.TheVariants.{Code}
use Rattle.jobs.specs.Clauses.{Enough, Lent}
use Rattle.jobs.specs.SuperFrame.{JobYield, input_length, output_length, blocks_length, cells_length, code_lent, code_written, job_call}
use Rattle.jobs.proofs.Rooms.{enough}
use Rattle.jobs.proofs.Fronts.{front_blank, front_long}

pub code_call_lem : (z : SizesYield) (bytes rest first second third : List ℕ) (fac sdc msc : List ℤ) → Enough z
    → first ≡ take 27 bytes → rest ≡ drop 27 bytes → second ≡ take z.sdcbytes rest → third ≡ drop z.sdcbytes rest
    → fac ≡ replicate 390 (pos 0) → sdc ≡ replicate 1692 (pos 0) → msc ≡ replicate 36712 (pos 0)
    → code_call first second third fac (take (z.sdcnumbers - 0) sdc) (take (z.mscnumbers - 0) msc) ≡ code_lent z bytes
unfolding code_lent
code_call_lem z bytes rest first second third fac sdc msc h e1 er e2 e3 ef es em =
    rw (e1, e2, e3, er, drop-drop z.sdcbytes 27 bytes, ef, front_blank (pos 0) z.sdcnumbers 1692 sdc es h.sdcnumbers, front_blank (pos 0) z.mscnumbers 36712 msc em h.mscnumbers)

pub code_called : (state : State) (z : SizesYield) (memory : List ℕ) (bytes out : List ℕ) (c : CodeCall) (y : JobYield) → z ≡ sizes_of state.scheme.settings → c ≡ code_lent z bytes
    → y ≡ code_written (code_of state memory c) out → y ≡ job_call Code state memory bytes out
unfolding job_call
code_called state z memory bytes out c y e f h = h ∙ ap (λ c. code_written (code_of state memory c) out) (f ∙ ap (λ z. code_lent z bytes) e)

-- The input has the bytes of the FAC and SDC blocks, and the output room for all cells.
pub code_first : (z : SizesYield) (g : ℕ) (bytes : List ℕ) → length bytes ≡ input_length Code z g → 27 + z.sdcbytes ≤ length bytes
unfolding input_length blocks_length
code_first z g bytes e = omega (arith, e)

pub code_room : (state : State) (z : SizesYield) (bytes out : List ℕ) (fac sdc msc : List ℤ) → Lent Code state z bytes out
    → fac ≡ replicate 390 (pos 0) → sdc ≡ replicate 1692 (pos 0) → msc ≡ replicate 36712 (pos 0)
    → 2 * length fac + 2 * length (take (z.sdcnumbers - 0) sdc) + 2 * length (take (z.mscnumbers - 0) msc) ≤ length out
unfolding output_length cells_length
code_room state z bytes out fac sdc msc p ef es em =
    let h = enough state.scheme.settings z p.sizes p.accepted in
    omega (
      arith,
      p.output,
      h.facnumbers,
      ap length ef ∙ length-replicate 390 (pos 0),
      front_long (pos 0) z.sdcnumbers 1692 sdc es h.sdcnumbers,
      front_long (pos 0) z.mscnumbers 36712 msc em h.mscnumbers,
    )
