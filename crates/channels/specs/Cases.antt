-- The cases of 01 that are marked to be proved, as one table.
use Rattle.std.specs.Prelude.{ℕ, ◌≡◌, List, [], ◌∷◌, replicate, get_or, ℤ, pos, negsuc}
use Rattle.lists.specs.Lists.{table}
use Rattle.patterns.specs.Patterns.{table65, pattern, R1/2}
use Rattle.component.specs.Codeword.{encode}
use Rattle.interleaver.specs.Interleaving.{place}
use Rattle.partlengths.specs.Formulas.{sdc_bits}
use Rattle.settings.specs.declared.Settings.{Settings}
use Rattle.settings.specs.Lengths.{n1, l2, l_vspp}
use Rattle.settings.specs.Refusal.{refusal}
use Rattle.block.specs.Dispersal.{p}
use Rattle.block.specs.Mapping.{standard64, symmetric64, label_at}

-- Settings by their numbers in 01's order, X as one number.
unfoldable pub settings_of : ℕ → ℕ → ℕ → ℕ → ℕ → ℕ → ℕ → ℕ → ℕ → Settings
settings_of mode occupancy msc levela levelb vspp x sdc interleaving =
    record {
      mode = mode;
      occupancy = occupancy;
      msc = msc;
      levela = levela;
      levelb = levelb;
      vspp = vspp;
      x = x;
      sdc = sdc;
      interleaving = interleaving;
    }

-- A coordinate from the level bits i0, i1, i2.
unfoldable pub coordinate_of : List ℤ → ℕ → ℕ → ℕ → ℤ
coordinate_of labelling i0 i1 i2 = get_or labelling (label_at ((i0 ∷ []) ∷ (i1 ∷ []) ∷ (i2 ∷ []) ∷ []) 0) (pos 0)

-- 01 "Cases", the marked ones in its order.
pub record Cases : Type 0 where
  pub dispersal : table p 0 16 ≡ 0 ∷ 0 ∷ 0 ∷ 0 ∷ 0 ∷ 1 ∷ 1 ∷ 1 ∷ 1 ∷ 0 ∷ 1 ∷ 1 ∷ 1 ∷ 1 ∷ 1 ∷ 0 ∷ []
  pub rate_1/2 : encode (pattern table65 R1/2) 0 0 (1 ∷ replicate 6 0) ≡ 1 ∷ 1 ∷ 0 ∷ 1 ∷ 1 ∷ 1 ∷ 1 ∷ 1 ∷ 0 ∷ 0 ∷ 1 ∷ 0 ∷ 1 ∷ 1 ∷ []
  pub places_6_13 : table (place 13 6) 0 6 ≡ 0 ∷ 1 ∷ 4 ∷ 5 ∷ 2 ∷ 3 ∷ []
  pub places_8_21 : table (place 21 8) 0 8 ≡ 0 ∷ 1 ∷ 6 ∷ 7 ∷ 4 ∷ 5 ∷ 2 ∷ 3 ∷ []
  pub places_8_5 : table (place 5 8) 0 8 ≡ 0 ∷ 1 ∷ 6 ∷ 7 ∷ 4 ∷ 5 ∷ 2 ∷ 3 ∷ []
  pub sm_100 : coordinate_of standard64 1 0 0 ≡ pos 5
  pub sm_001 : coordinate_of standard64 0 0 1 ≡ negsuc 0
  pub hmsym_100 : coordinate_of symmetric64 1 0 0 ≡ negsuc 0
  pub hmsym_010 : coordinate_of symmetric64 0 1 0 ≡ pos 5
  pub n1_1101 : n1 (settings_of 0 3 0 0 0 0 1101 0 0) ≡ 2936
  pub accepted_1101 : refusal (settings_of 0 3 0 0 0 0 1101 0 0) ≡ 0
  pub refused_1102 : refusal (settings_of 0 3 0 0 0 0 1102 0 0) ≡ 7
  pub l2_b3 : l2 (settings_of 1 3 0 0 1 0 0 0 0) ≡ 8390
  pub l2_hmsym : l2 (settings_of 0 3 2 0 0 0 0 0 0) ≡ 5313
  pub vspp_hmsym : l_vspp (settings_of 0 3 2 0 0 0 0 0 0) ≡ 2953
  pub sdc_4qam : sdc_bits 1 100 ≡ 94
  pub sdc_16qam : sdc_bits 0 100 ≡ 186
  pub occupancy_4 : refusal (settings_of 3 4 0 0 0 0 0 0 0) ≡ 2
  pub level_2 : refusal (settings_of 0 3 3 2 0 0 0 0 0) ≡ 4
