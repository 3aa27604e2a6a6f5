-- What the call Lengths yields. 01 "Lengths" and "Operations", Lengths.
use Rattle.std.specs.Prelude.{ℕ, ◌-◌, cond, eqb, Result, Ok, Err}
use Rattle.partlengths.specs.Cells.{entry, mux_table, super_table, sdc_table}
use Rattle.partlengths.specs.Formulas.{part_a, part_b, part_vspp, cells_a, sdc_bits}
use Rattle.refusal.specs.declared.Refusal.{Refusal}
use Rattle.refusal.specs.Numbers.{number}
use Rattle.settings.specs.declared.Settings.{Settings}
use Rattle.settings.specs.declared.Lengths.{Lengths}
use Rattle.settings.specs.Refusal.{refusal}

-- N_MUX, N_SFA and N_SDC of the settings.
unfoldable pub n_mux : Settings → ℕ
n_mux s = entry mux_table s.mode s.occupancy

unfoldable pub n_sfa : Settings → ℕ
n_sfa s = entry super_table s.mode s.occupancy

unfoldable pub n_sdc : Settings → ℕ
n_sdc s = entry sdc_table s.mode s.occupancy

-- N1, the cells of part A, and N2 = N_MUX - N1, the cells of part B.
unfoldable pub n1 : Settings → ℕ
n1 s = cells_a s.msc s.levela s.x

unfoldable pub n2 : Settings → ℕ
n2 s = n_mux s - n1 s

-- L1, L2 and L_VSPP: the bits of parts A and B and of the very strongly protected part. L_SDC: the bits of an SDC block.
unfoldable pub l1 : Settings → ℕ
l1 s = part_a s.msc s.levela (n1 s)

unfoldable pub l2 : Settings → ℕ
l2 s = part_b s.msc s.levelb (n2 s)

unfoldable pub l_vspp : Settings → ℕ
l_vspp s = part_vspp s.msc s.vspp (n_mux s)

unfoldable pub l_sdc : Settings → ℕ
l_sdc s = sdc_bits s.sdc (n_sdc s)

-- The answer: 0 and the five lengths, or the refusal and five zeros.
pub record LengthsYield : Type 0 where
  pub refusal : ℕ
  pub n1 : ℕ
  pub n2 : ℕ
  pub l1 : ℕ
  pub l2 : ℕ
  pub vspp : ℕ

unfoldable pub refused : ℕ → LengthsYield
refused r = record { refusal = r; n1 = 0; n2 = 0; l1 = 0; l2 = 0; vspp = 0 }

unfoldable pub accepted : Settings → LengthsYield
accepted s = record { refusal = 0; n1 = n1 s; n2 = n2 s; l1 = l1 s; l2 = l2 s; vspp = l_vspp s }

unfoldable pub lengths_of : Settings → LengthsYield
lengths_of s = cond (eqb (refusal s) 0) (accepted s) (refused (refusal s))

-- What a result of the call answers.
abbrev pub lengths_yield : Result Lengths Refusal → LengthsYield
lengths_yield (Ok l) = record { refusal = 0; n1 = l.n1; n2 = l.n2; l1 = l.l1; l2 = l.l2; vspp = l.vspp }
lengths_yield (Err r) = refused (number r)
