-- The calls that the jobs `grid` and `ungrid` make of their buffers.
use Prim.Native.Nat.{ℕ, ◌+◌, ◌-◌, ◌*◌, ◌/◌, ◌≤◌}
use mathlib.Core.Path.{◌≡◌, refl, ap, ◌∙◌}
use mathlib.Core.List.{List}
use native.Mathlib.Omega.{arith}
use lib.ListN.{length, take, drop, replicate, length-replicate}
use lib.IntN.{ℤ, pos}
use Rattle.std.proofs.lemmas.List.{drop-drop}
use Rattle.std.specs.Prelude.{⊤, Result, Ok, Err}
use Rattle.std.specs.Result.{result_and}
use Rattle.refusal.specs.declared.Refusal.{Refusal}
use Rattle.refusal.specs.Numbers.{answer}
use Rattle.superframe.specs.Answers.{done}
use Rattle.settings.specs.declared.Settings.{Settings}
use Rattle.settings.specs.Sizes.{SizesYield, sizes_of}
use Rattle.superframe.specs.declared.State.{State}
use Rattle.grid.specs.Calls.{grid_sizes, place_of, take_of}
use Rattle.placing.specs.Clauses.{cells_from}
use Rattle.placing.specs.Cells.{Cells}
use Rattle.console.specs.declared.Job.TheVariants.{Grid, Ungrid}
use Rattle.deskcells.specs.Cells.{bytes_cells}
use Rattle.jobs.specs.Clauses.{Enough, Lent}
use Rattle.jobs.specs.SuperFrame.{JobYield, grid_length, input_length, output_length, cells_length, cells_in, blank_cells, grid_written, cells_written, job_call}
use Rattle.deskcells.proofs.Turns.{bytes-cells_long}
use Rattle.jobs.proofs.Rooms.{enough}
use Rattle.jobs.proofs.Lengths.{grid_most}
use Rattle.jobs.proofs.Fronts.{front_blank, front_long}

-- The cells of an input, in three parts.
pub cells_parted : (z : SizesYield) (cells rest first second third : List ℤ) → first ≡ take 390 cells → rest ≡ drop 390 cells → second ≡ take z.sdcnumbers rest → third ≡ drop z.sdcnumbers rest
    → cells_from first second third ≡ cells_in z cells
unfolding cells_in
cells_parted z cells rest first second third e1 er e2 e3 = rw (e1, e2, e3, er, drop-drop z.sdcnumbers 390 cells)

pub place_called : (state : State) (z : SizesYield) (memory : List ℕ) (cells grid : List ℤ) (parts : Cells) (bytes out : List ℕ) (n : ℕ) (y : JobYield) → z ≡ sizes_of state.scheme.settings → cells ≡ bytes_cells bytes
    → grid ≡ replicate 62235 (pos 0) → n ≡ (grid_sizes state.scheme.settings).numbers → parts ≡ cells_in z cells
    → y ≡ grid_written (place_of state.scheme.settings parts (take (n - 0) grid)) state memory out
    → y ≡ job_call Grid state memory bytes out
unfolding job_call
place_called state z memory cells grid parts bytes out n y e f g k p h =
    h ∙ rw (p, front_blank (pos 0) n 62235 grid g (rw k (grid_most state.scheme.settings)), f, e, k)

pub take_called : (state : State) (z : SizesYield) (memory : List ℕ) (fac sdc msc grid : List ℤ) (bytes out : List ℕ) (y : JobYield) → Enough z → z ≡ sizes_of state.scheme.settings → grid ≡ bytes_cells bytes
    → fac ≡ replicate 390 (pos 0) → sdc ≡ replicate 1692 (pos 0) → msc ≡ replicate 36712 (pos 0)
    → y ≡ cells_written (take_of state.scheme.settings grid (cells_from fac (take (z.sdcnumbers - 0) sdc) (take (z.mscnumbers - 0) msc))) state memory out
    → y ≡ job_call Ungrid state memory bytes out
unfolding job_call blank_cells
take_called state z memory fac sdc msc grid bytes out y h e f ef es em g =
    g ∙ rw (ef, front_blank (pos 0) z.sdcnumbers 1692 sdc es h.sdcnumbers, front_blank (pos 0) z.mscnumbers 36712 msc em h.mscnumbers, f, e)

-- What is taken leaves the state.
pub after_taking : (state : State) (taken : Result ⊤ Refusal) → done state (result_and taken (Ok state)) ≡ record { refusal = answer taken; state = state }
after_taking state (Ok t) = refl
after_taking state (Err refusal) = refl

-- The input has the cells of the FAC and SDC blocks, and the output room for the bytes of a grid or of all cells.
pub cells_first : (s : Settings) (z : SizesYield) (g : ℕ) (bytes : List ℕ) (cells : List ℤ) → z ≡ sizes_of s → z.refusal ≡ 0 → length bytes ≡ input_length Grid z g → cells ≡ bytes_cells bytes → 390 + z.sdcnumbers ≤ length cells
unfolding input_length cells_length
cells_first s z g bytes cells e a h f = omega (arith, h, (enough s z e a).facnumbers, ap length f, bytes-cells_long bytes)

pub place_room : (state : State) (z : SizesYield) (bytes : List ℕ) (grid : List ℤ) (n : ℕ) (out : List ℕ) → Lent Grid state z bytes out
    → grid ≡ replicate 62235 (pos 0) → n ≡ (grid_sizes state.scheme.settings).numbers → 2 * length (take (n - 0) grid) ≤ length out
unfolding output_length grid_length
place_room state z bytes grid n out p g k = omega (arith, p.output, k, front_long (pos 0) n 62235 grid g (rw k (grid_most state.scheme.settings)))

pub take_room : (state : State) (z : SizesYield) (bytes out : List ℕ) (fac sdc msc : List ℤ) → Lent Ungrid state z bytes out
    → fac ≡ replicate 390 (pos 0) → sdc ≡ replicate 1692 (pos 0) → msc ≡ replicate 36712 (pos 0)
    → 2 * length fac + 2 * length (take (z.sdcnumbers - 0) sdc) + 2 * length (take (z.mscnumbers - 0) msc) ≤ length out
unfolding output_length cells_length
take_room state z bytes out fac sdc msc p ef es em =
    let h = enough state.scheme.settings z p.sizes p.accepted in
    omega (
      arith,
      p.output,
      h.facnumbers,
      ap length ef ∙ length-replicate 390 (pos 0),
      front_long (pos 0) z.sdcnumbers 1692 sdc es h.sdcnumbers,
      front_long (pos 0) z.mscnumbers 36712 msc em h.mscnumbers,
    )

-- The numbers of a grid are half its bytes.
pub half_grid : (s : Settings) (g : ℕ) → g ≡ grid_length s → g / 2 ≡ (grid_sizes s).numbers
unfolding grid_length
half_grid s g e = omega (arith, e)
