-- No settings need more room than there is.
use Prim.Native.Nat.{ℕ, ◌*◌, ◌/◌, ◌≤◌, ◌<◌}
use mathlib.Core.Path.{◌≡◌, refl, sym, ap, ◌∙◌}
use mathlib.Core.Bool.{Bool, true, false}
use native.Mathlib.Omega.{arith}
use lib.Dec.{eqb}
use borrow.Author.Tests.{eqb-true, eqb-false, ne_eqb, lt-ltb, le-ltb}
use Rattle.partlengths.specs.Cells.{fac_cells}
use Rattle.partlengths.specs.Formulas.{round_up}
use Rattle.settings.specs.declared.Settings.{Settings}
use Rattle.settings.specs.Refusal.{refusal}
use Rattle.settings.specs.Accepted.{Accepted}
use Rattle.lists.specs.Bytes.{bytes_for}
use Rattle.settings.specs.Sizes.{SizesYield, frame_bytes, sdc_bytes, no_sizes, all_sizes, sizes_of}
use Rattle.settings.proofs.Bounds.{accepted_of}
use Rattle.settings.proofs.Buffers.{frame_low, memory_low, sizes_accepts}
use Rattle.jobs.specs.Clauses.{Enough}
use Rattle.jobs.specs.Output.{frames_length}

all_enough : (s : Settings) → Accepted s → Enough (all_sizes s)
unfolding all_sizes sdc_bytes frame_bytes bytes_for round_up fac_cells
all_enough s a =
    record {
      sdcbytes = omega (arith, a.sdc_bits_most);
      mscbytes = omega (arith, frame_low s a);
      facnumbers = refl;
      sdcnumbers = omega (arith, a.ranges.sdc_most);
      mscnumbers = omega (arith, a.ranges.fillers, a.ranges.mux_most);
      memory = memory_low s a;
    }

-- Accepted settings, and sizes without a refusal.
pub enough_accepted : (s : Settings) → refusal s ≡ 0 → Enough (sizes_of s)
enough_accepted s r = rw (sizes_accepts s r) (all_enough s (accepted_of s r))

no_sizes_number : (r : ℕ) → (no_sizes r).refusal ≡ r
unfolding no_sizes
no_sizes_number r = refl

pub sizes_refused : (s : Settings) → (refusal s ≡ 0 → ⊥) → sizes_of s ≡ no_sizes (refusal s)
unfolding sizes_of
sizes_refused s h = rw (ne_eqb (refusal s) 0 h)

pub sizes_accepted : (s : Settings) → (sizes_of s).refusal ≡ 0 → refusal s ≡ 0
sizes_accepted s n = go (eqb (refusal s) 0) refl
  where
    go : (b : Bool) → eqb (refusal s) 0 ≡ b → refusal s ≡ 0
    go true t = eqb-true (refusal s) 0 t
    go false t =
        let r = eqb-false (refusal s) 0 t in
        sym (ap (λ (z : SizesYield). z.refusal) (sizes_refused s r) ∙ no_sizes_number (refusal s)) ∙ n

pub enough : (s : Settings) (z : SizesYield) → z ≡ sizes_of s → z.refusal ≡ 0 → Enough z
enough s z e n = rw e (enough_accepted s (sizes_accepted s (sym (ap (λ (z : SizesYield). z.refusal) e) ∙ n)))

-- The first n of three frames.
pub few_frames : (n k all r : ℕ) → n ≡ k → k < 3 → r ≡ k * (all / 3) → r ≡ frames_length n all
unfolding frames_length
few_frames n k all r e h f = rw (e, lt-ltb k 3 h) f

pub all-frames : (n all : ℕ) → 3 ≤ n → all ≡ frames_length n all
unfolding frames_length
all-frames n all h = rw (le-ltb n 3 h)
