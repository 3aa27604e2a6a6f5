-- What the call `sizes` yields: the length of every buffer that a caller lends. 01 "Buffers and state".
use Rattle.std.specs.Prelude.{ℕ, ◌+◌, ◌*◌, cond, eqb, Result, Ok, Err}
use Rattle.lists.specs.Bytes.{bytes_for}
use Rattle.partlengths.specs.Cells.{fac_cells}
use Rattle.refusal.specs.declared.Refusal.{Refusal}
use Rattle.refusal.specs.Numbers.{number}
use Rattle.settings.specs.declared.Settings.{Settings}
use Rattle.settings.specs.declared.Sizes.{Sizes}
use Rattle.settings.specs.Refusal.{refusal}
use Rattle.settings.specs.Lengths.{n_mux, n_sfa, n_sdc, l1, l2, l_vspp, l_sdc}

-- The interleaving's depth: five multiplex frames in long interleaving, one in short.
unfoldable pub depth : Settings → ℕ
depth s = cond (eqb s.interleaving 0) 5 1

-- A multiplex frame is L_VSPP bits, then L1, then L2.
unfoldable pub frame_bits : Settings → ℕ
frame_bits s = l_vspp s + (l1 s + l2 s)

-- Bits are packed, and each block and frame begins a byte.
unfoldable pub frame_bytes : Settings → ℕ
frame_bytes s = bytes_for (frame_bits s)

unfoldable pub sdc_bytes : Settings → ℕ
sdc_bytes s = bytes_for (l_sdc s)

-- One call carries three FAC blocks (390 numbers), one SDC block and three multiplex frames; memory has a slot of N_MUX cells for each frame of the depth, a byte for each (02 S-7).
pub record SizesYield : Type 0 where
  pub refusal : ℕ
  pub sdcbytes : ℕ
  pub mscbytes : ℕ
  pub facnumbers : ℕ
  pub sdcnumbers : ℕ
  pub mscnumbers : ℕ
  pub memory : ℕ

unfoldable pub no_sizes : ℕ → SizesYield
no_sizes r =
    record { refusal = r; sdcbytes = 0; mscbytes = 0; facnumbers = 0; sdcnumbers = 0; mscnumbers = 0; memory = 0 }

unfoldable pub all_sizes : Settings → SizesYield
all_sizes s =
    record {
      refusal = 0;
      sdcbytes = sdc_bytes s;
      mscbytes = 3 * frame_bytes s;
      facnumbers = 3 * (2 * fac_cells);
      sdcnumbers = 2 * n_sdc s;
      mscnumbers = 2 * n_sfa s;
      memory = depth s * n_mux s;
    }

unfoldable pub sizes_of : Settings → SizesYield
sizes_of s = cond (eqb (refusal s) 0) (all_sizes s) (no_sizes (refusal s))

-- What a result of the call answers.
abbrev pub sizes_yield : Result Sizes Refusal → SizesYield
sizes_yield (Ok z) =
    record {
      refusal = 0;
      sdcbytes = z.sdcbytes;
      mscbytes = z.mscbytes;
      facnumbers = z.facnumbers;
      sdcnumbers = z.sdcnumbers;
      mscnumbers = z.mscnumbers;
      memory = z.memory;
    }
sizes_yield (Err r) = no_sizes (number r)
