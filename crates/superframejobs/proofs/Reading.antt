-- The calls that the jobs `read` and `read-on` make of their buffers.
use Prim.Native.Nat.{ℕ, ◌+◌, ◌-◌, ◌≤◌}
use mathlib.Core.Path.{◌≡◌, refl, sym, ap, ◌∙◌}
use mathlib.Core.Bool.{Bool, true, false}
use Rattle.std.specs.Prelude.{cond}
use mathlib.Core.List.{List}
use native.Mathlib.Nat.{zero-add}
use native.Mathlib.Omega.{arith}
use lib.ListN.{length, take, drop, replicate, length-replicate}
use lib.IntN.{ℤ}
use Rattle.std.proofs.lemmas.List.{drop-drop}
use Rattle.settings.specs.declared.Settings.{Settings}
use Rattle.settings.specs.Sizes.{SizesYield, sizes_of}
use Rattle.superframe.specs.declared.State.{State}
use Rattle.superframe.specs.Read.{ReadCall, read_of}
use Rattle.keptcells.specs.ReadOn.{read_on_of}
use Rattle.superframe.specs.Clauses.{read_call}
use Rattle.console.specs.declared.Job.{Job}
use Rattle.console.specs.declared.Job.TheVariants.{Read, ReadOn}
use Rattle.deskcells.specs.Cells.{bytes_cells}
use Rattle.jobs.specs.Clauses.{Enough, Lent, read_job}
use Rattle.jobs.specs.SuperFrame.{JobYield, grid_length, input_length, output_length, blocks_length, cells_length, read_lent, read_answered, read_on_lent, read_on_answered, job_call}
use Rattle.deskcells.proofs.Turns.{bytes-cells_long}
use Rattle.jobs.proofs.Rooms.{enough}
use Rattle.jobs.proofs.Fronts.{front_blank, front_long}

pub read_call_lem : (z : SizesYield) (cells rest first second third : List ℤ) (fac sdc msc : List ℕ) → Enough z
    → first ≡ take 390 cells → rest ≡ drop 390 cells → second ≡ take z.sdcnumbers rest → third ≡ drop z.sdcnumbers rest
    → fac ≡ replicate 27 0 → sdc ≡ replicate 210 0 → msc ≡ replicate 13767 0
    → read_call first second third fac (take (z.sdcbytes - 0) sdc) (take (z.mscbytes - 0) msc) ≡ read_lent z cells
unfolding read_lent
read_call_lem z cells rest first second third fac sdc msc h e1 er e2 e3 ef es em =
    rw (e1, e2, e3, er, drop-drop z.sdcnumbers 390 cells, ef, front_blank 0 z.sdcbytes 210 sdc es h.sdcbytes, front_blank 0 z.mscbytes 13767 msc em h.mscbytes)

pub read_called : (state : State) (z : SizesYield) (memory : List ℕ) (cells : List ℤ) (bytes out : List ℕ) (c : ReadCall) (y : JobYield) → z ≡ sizes_of state.scheme.settings → cells ≡ bytes_cells bytes
    → c ≡ read_lent z cells → y ≡ read_answered (read_of state memory c) out → y ≡ job_call Read state memory bytes out
unfolding job_call
read_called state z memory cells bytes out c y e f g h = h ∙ rw (g, f, e)

pub read_on_called : (state : State) (z : SizesYield) (memory : List ℕ) (cells : List ℤ) (bytes out : List ℕ) (c : ReadCall) (y : JobYield) → z ≡ sizes_of state.scheme.settings → cells ≡ bytes_cells bytes
    → c ≡ read_lent z cells → y ≡ read_on_answered (read_on_of state memory (record { call = c; lost = replicate 7 0 })) out → y ≡ job_call ReadOn state memory bytes out
unfolding job_call read_on_lent
read_on_called state z memory cells bytes out c y e f g h = h ∙ rw (g, f, e)

-- What the calls require of the buffers: the jobs that read, with so many bytes that tell what is lost.
pub record Reads (job : Job) (lost : ℕ) : Type 0 where
  pub input : (z : SizesYield) (g : ℕ) → input_length job z g ≡ cells_length z
  pub output : (z : SizesYield) (g : ℕ) → output_length job z g ≡ lost + (blocks_length z + 1)

pub reads : (on : Bool) → Reads (read_job on) (cond on 7 0)
unfolding input_length output_length
reads true = record { input = λ z g. refl; output = λ z g. refl }
reads false = record { input = λ z g. refl; output = λ z g. sym (zero-add (blocks_length z + 1)) }

pub cells_first : {job : Job} {lost : ℕ} → Reads job lost → (s : Settings) (z : SizesYield) (g : ℕ) (bytes : List ℕ) (cells : List ℤ)
    → z ≡ sizes_of s → z.refusal ≡ 0 → length bytes ≡ input_length job z g → cells ≡ bytes_cells bytes → 390 + z.sdcnumbers ≤ length cells
unfolding cells_length
cells_first j s z g bytes cells e a h f = omega (arith, h, j.input z g, (enough s z e a).facnumbers, ap length f, bytes-cells_long bytes)

pub read_room : {job : Job} {lost : ℕ} → Reads job lost → (state : State) (z : SizesYield) (bytes out fac sdc msc : List ℕ) → Lent job state z bytes out
    → fac ≡ replicate 27 0 → sdc ≡ replicate 210 0 → msc ≡ replicate 13767 0
    → lost + length fac + length (take (z.sdcbytes - 0) sdc) + 1 + length (take (z.mscbytes - 0) msc) ≤ length out
unfolding blocks_length
read_room {job} {lost} j state z bytes out fac sdc msc p ef es em =
    let h = enough state.scheme.settings z p.sizes p.accepted in
    omega (
      arith,
      p.output,
      j.output z (grid_length state.scheme.settings),
      ap length ef ∙ length-replicate {A = ℕ} 27 0,
      front_long 0 z.sdcbytes 210 sdc es h.sdcbytes,
      front_long 0 z.mscbytes 13767 msc em h.mscbytes,
    )
