-- What is known of settings that are not refused: nothing of 01 is stated here, all follows from Refusal and Lengths.
use Rattle.std.specs.Prelude.{◌+◌, ◌-◌, ◌*◌, ◌≤◌, ◌≡◌, true, false, ◌⊎◌}
use Rattle.partlengths.specs.Formulas.{hierarchical, width}
use Rattle.partlengths.specs.Clauses.{Level, Whole}
use Rattle.settings.specs.declared.Settings.{Settings}
use Rattle.settings.specs.Refusal.{paired}
use Rattle.settings.specs.Lengths.{n_mux, n_sfa, n_sdc, n1, n2, l_sdc}
use Rattle.settings.specs.Sizes.{frame_bits}

-- No refusal 1 to 6, and the cell counts of the pairing.
pub record Ranges (s : Settings) : Type 0 where
  pub mode : s.mode ≤ 3
  pub pairing : paired s.mode s.occupancy ≡ true
  pub part_a : Level s.msc s.levela
  pub part_b : Level s.msc s.levelb
  pub vspp : s.vspp ≤ 3
  pub no_vspp : hierarchical s.msc ≡ false → s.vspp ≡ 0
  pub sdc : s.sdc ≤ 1
  pub interleaving : s.interleaving ≤ 1
  pub mux_least : 966 ≤ n_mux s
  pub mux_most : n_mux s ≤ 6118
  pub sdc_least : 130 ≤ n_sdc s
  pub sdc_most : n_sdc s ≤ 846
  pub three_frames : 3 * n_mux s ≤ n_sfa s
  pub fillers : n_sfa s ≤ 3 * n_mux s + 2

-- No refusal: N1 and N2 as 01 "Lengths" has them, and bounds of the lengths.
pub record Accepted (s : Settings) : Type 0 where
  pub ranges : Ranges s
  pub part : Whole s.msc s.levela (n1 s)
  pub n1_most : n1 s ≤ n_mux s - 20
  pub n2_least : 20 ≤ n2 s
  pub cells : n1 s + n2 s ≡ n_mux s
  -- part A is empty or its levels have coded bits enough for an interleaver
  pub n1_some : (n1 s ≡ 0) ⊎ (8 ≤ width s.msc * n1 s)
  pub frame_some : 1 ≤ frame_bits s
  pub frame_most : frame_bits s ≤ 6 * n_mux s
  pub sdc_some : 1 ≤ l_sdc s
  pub sdc_bits_most : l_sdc s ≤ 1680
