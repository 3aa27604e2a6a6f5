-- The lengths of a job's input and output.
use Prim.Native.Nat.{ℕ, ◌≤◌}
use mathlib.Core.Path.{◌≡◌, refl, sym, ap, ◌∙◌}
use mathlib.Core.Bool.{Bool, true, false}
use mathlib.Core.List.{List}
use native.Mathlib.Omega.{arith}
use lib.ListN.{length}
use lib.Dec.{eqb}
use borrow.Author.Tests.{eqb-true, eqb-false}
use Rattle.settings.specs.declared.Settings.{Settings}
use Rattle.settings.specs.Refusal.{refusal}
use Rattle.settings.specs.Sizes.{SizesYield, no_sizes, sizes_of}
use Rattle.superframe.specs.declared.State.{State}
use Rattle.console.specs.declared.Job.{Job}
use Rattle.console.specs.declared.Job.TheVariants.{Code, Read, ReadOn, Grid, Ungrid}
use Rattle.grid.specs.Calls.{grid_numbers, some_grid, grid_sizes}
use Rattle.kinds.proofs.Bands.{band}
use Rattle.grid.proofs.Accepts.{pairing_of, grid_accepts, grid_refuses}
use Rattle.jobs.specs.Clauses.{Enough, Rooms, Lent, unnumbered}
use Rattle.jobs.specs.SuperFrame.{blocks_length, cells_length, grid_length, input_length, output_length}
use Rattle.jobs.proofs.Rooms.{enough, enough_accepted, sizes_refused}

-- By the job's name.
pub input_of : (job kind : Job) (z : SizesYield) (g : ℕ) → job ≡ kind → input_length kind z g ≡ input_length job z g
input_of job kind z g e = ap (λ j. input_length j z g) (sym e)

pub output_of : (job kind : Job) (z : SizesYield) (g : ℕ) → job ≡ kind → output_length kind z g ≡ output_length job z g
output_of job kind z g e = ap (λ j. output_length j z g) (sym e)

-- No grid has more than 62,235 numbers.
some_most : (s : Settings) → refusal s ≡ 0 → (some_grid s).numbers ≤ 62235
unfolding some_grid grid_numbers
some_most s e = omega (arith, (band s.mode s.occupancy (pairing_of s e)).few)

pub grid_most : (s : Settings) → (grid_sizes s).numbers ≤ 62235
grid_most s = go (eqb (refusal s) 0) refl
  where
    go : (b : Bool) → eqb (refusal s) 0 ≡ b → (grid_sizes s).numbers ≤ 62235
    go true t = rw (grid_accepts s (eqb-true (refusal s) 0 t)) (some_most s (eqb-true (refusal s) 0 t))
    go false t = rw (← grid_refuses s (refusal s) refl (eqb-false (refusal s) 0 t)) (omega arith)

pub length_most : (s : Settings) → grid_length s ≤ 124470
unfolding grid_length
length_most s = omega (arith, grid_most s)

pub input_most : (job : Job) (z : SizesYield) (g : ℕ) → Enough z → g ≤ 124470 → input_length job z g ≤ 124470
unfolding input_length blocks_length cells_length
input_most Code z g e h = omega (arith, e.sdcbytes, e.mscbytes)
input_most Read z g e h = omega (arith, e.facnumbers, e.sdcnumbers, e.mscnumbers)
input_most ReadOn z g e h = omega (arith, e.facnumbers, e.sdcnumbers, e.mscnumbers)
input_most Grid z g e h = omega (arith, e.facnumbers, e.sdcnumbers, e.mscnumbers)
input_most Ungrid z g e h = h

none_most : (job : Job) (n g : ℕ) → g ≤ 124470 → input_length job (no_sizes n) g ≤ 124470
unfolding input_length blocks_length cells_length no_sizes
none_most Code n g h = omega arith
none_most Read n g h = omega arith
none_most ReadOn n g h = omega arith
none_most Grid n g h = omega arith
none_most Ungrid n g h = h

none_memory : (n : ℕ) → (no_sizes n).memory ≤ 30590
unfolding no_sizes
none_memory n = omega arith

-- The answer beside the sizes counts for no length.
input_unnumbered : (job : Job) (z : SizesYield) (g : ℕ) → input_length job z g ≡ input_length job (unnumbered z) g
unfolding input_length blocks_length cells_length
input_unnumbered Code z g = refl
input_unnumbered Read z g = refl
input_unnumbered ReadOn z g = refl
input_unnumbered Grid z g = refl
input_unnumbered Ungrid z g = refl

pub rooms : (job : Job) (s : Settings) (z : SizesYield) (g i m : ℕ) → unnumbered z ≡ unnumbered (sizes_of s) → g ≡ grid_length s → i ≡ input_length job z g → m ≡ z.memory
    → Rooms job s (record { input = i; memory = m })
rooms job s z g i m e eg ei em = go (eqb (refusal s) 0) refl
  where
    low : g ≤ 124470
    low = rw eg (length_most s)

    within : input_length job (sizes_of s) g ≤ 124470 → (sizes_of s).memory ≤ 30590 → Rooms job s (record { input = i; memory = m })
    within a b =
        let f : i ≡ input_length job (sizes_of s) g = ei ∙ input_unnumbered job z g ∙ ap (λ y. input_length job y g) e ∙ sym (input_unnumbered job (sizes_of s) g) in
        let k : m ≡ (sizes_of s).memory = em ∙ ap (λ (z : SizesYield). z.memory) e in
        record {
          input = f ∙ ap (input_length job (sizes_of s)) eg;
          memory = k;
          inputmost = rw f a;
          memorymost = rw k b;
        }

    go : (b : Bool) → eqb (refusal s) 0 ≡ b → Rooms job s (record { input = i; memory = m })
    go true t = let r = enough_accepted s (eqb-true (refusal s) 0 t) in within (input_most job (sizes_of s) g r low) (r.memory)
    go false t =
        let r = sizes_refused s (eqb-false (refusal s) 0 t) in
        within (rw r (none_most job (refusal s) g low)) (rw r (none_memory (refusal s)))

-- The bytes of numbers that a job takes.
pub bytes_most : (job : Job) (state : State) (z : SizesYield) (bytes out : List ℕ) → Lent job state z bytes out → length bytes ≤ 124470
bytes_most job state z bytes out p =
    omega (arith, p.input, input_most job z (grid_length state.scheme.settings) (enough state.scheme.settings z p.sizes p.accepted) (length_most state.scheme.settings))
