-- The sizes of buffers.
use mathlib.Core.Path.{◌≡◌, sym, ◌∙◌, ap}
use Rattle.std.proofs.Common.{Ok, Err}
use mathlib.Core.Bool.{Bool, true, false, cond}
use Prim.Native.Nat.{ℕ, ◌+◌, ◌*◌, ◌≤◌}
use native.Mathlib.Omega.{arith}
use lib.Dec.{eqb}
use borrow.Author.Tests.{eq-eqb, ne_eqb}
use Rattle.lists.specs.Bytes.{bytes_for}
use Rattle.partlengths.specs.Cells.{fac_cells}
use Rattle.partlengths.specs.Formulas.{round_up}
use Rattle.refusal.specs.declared.Refusal.{Refusal}
use Rattle.refusal.specs.Numbers.{number}
use Rattle.refusal.proofs.Positive.{number_positive}
use Rattle.settings.specs.declared.Settings.{Settings}
use Rattle.settings.specs.declared.Lengths.{Lengths}
use Rattle.settings.specs.Refusal.{refusal}
use Rattle.settings.specs.Lengths.{n_mux, n_sfa, n_sdc, l_sdc, accepted, LengthsYield, lengths_yield}
use Rattle.settings.specs.Sizes.{depth, frame_bits, frame_bytes, sdc_bytes, all_sizes, sizes_of, SizesYield, sizes_yield}
use Rattle.settings.specs.Accepted.{Accepted}

-- Numbers of bytes, and of all buffers.
pub bytes_low : (bits : ℕ) → bits ≤ 65535 → bytes_for bits ≤ 8192
unfolding bytes_for round_up
bytes_low bits h = omega arith

pub frame_low : (s : Settings) → Accepted s → frame_bits s ≤ 36708
frame_low s a = omega arith

-- The memory is at most five bytes for each cell.
pub memory_low : (s : Settings) → Accepted s → depth s * n_mux s ≤ 30590
unfolding depth
memory_low s a = low (eqb s.interleaving 0)
  where
    low : (b : Bool) → cond b 5 1 * n_mux s ≤ 30590
    low true = omega (arith, a.ranges.mux_most)
    low false = omega (arith, a.ranges.mux_most)

-- The sizes as the code finds them.
pub record Sized (s : Settings) (sdc bytes frame sfa memory : ℕ) : Type 0 where
  pub is_sdc : sdc ≡ n_sdc s
  pub is_bytes : bytes ≡ sdc_bytes s
  pub is_frame : frame ≡ frame_bytes s
  pub is_sfa : sfa ≡ n_sfa s
  pub is_memory : memory ≡ depth s * n_mux s

pub is_all_sizes : (s : Settings) (sdc bytes frame sfa memory : ℕ) → Sized s sdc bytes frame sfa memory
    → sizes_yield (Ok (record { sdcbytes = bytes; mscbytes = 3 * frame; facnumbers = 390; sdcnumbers = 2 * sdc; mscnumbers = 2 * sfa; memory = memory }))
    ≡ all_sizes s
unfolding all_sizes fac_cells
is_all_sizes s sdc bytes frame sfa memory z = rw (z.is_sdc, z.is_bytes, z.is_frame, z.is_sfa, z.is_memory)

pub sizes_accepts : (s : Settings) → refusal s ≡ 0 → sizes_of s ≡ all_sizes s
unfolding sizes_of
sizes_accepts s e = rw (eq-eqb (refusal s) 0 e)

-- What the call yields where the settings are refused, and where they are not.
pub sizes_refuse : (s : Settings) (r : Refusal) → number r ≡ refusal s → sizes_yield (Err r) ≡ sizes_of s
unfolding sizes_of
sizes_refuse s r e = rw (← e, ne_eqb (number r) 0 (omega (arith, number_positive r)))

pub sizes_accept : (s : Settings) (y : SizesYield) → 0 ≡ refusal s → y ≡ all_sizes s → y ≡ sizes_of s
sizes_accept s y e f = f ∙ sym (sizes_accepts s (sym e))

-- A frame's bits from its three lengths.
pub frame_of_lem : (s : Settings) (l : Lengths) → lengths_yield (Ok l) ≡ accepted s → l.vspp + (l.l1 + l.l2) ≡ frame_bits s
unfolding accepted frame_bits
frame_of_lem s l e = ap (λ (y : LengthsYield). y.vspp + (y.l1 + y.l2)) e

-- Bounds of every size.
pub record Few (s : Settings) : Type 0 where
  pub sdc_few : n_sdc s ≤ 846
  pub sdc_bits_few : l_sdc s ≤ 1680
  pub sdc_bytes_few : sdc_bytes s ≤ 8192
  pub frame_few : frame_bytes s ≤ 8192
  pub sfa_few : n_sfa s ≤ 18356
  pub memory_few : depth s * n_mux s ≤ 30590

pub few : (s : Settings) → Accepted s → Few s
unfolding sdc_bytes frame_bytes
few s a =
    record {
      sdc_few = a.ranges.sdc_most;
      sdc_bits_few = a.sdc_bits_most;
      sdc_bytes_few = bytes_low (l_sdc s) (omega (arith, a.sdc_bits_most));
      frame_few = bytes_low (frame_bits s) (omega (arith, frame_low s a));
      sfa_few = omega (arith, a.ranges.fillers, a.ranges.mux_most);
      memory_few = memory_low s a;
    }
