-- The SDC block. 01 "Lengths" and "From bits to cells"; 001 clauses 7.2.1.3 and 7.5.2, tables 72 and 73.
use Rattle.std.specs.Prelude.{ℕ, List, [], ◌∷◌, get_or}
use Rattle.partlengths.specs.Rates.{sdc_rates}
use Rattle.settings.specs.Lengths.{n_sdc}
use Rattle.block.specs.declared.Level.{Level}
use Rattle.block.specs.declared.Block.{Block}
use Rattle.block.specs.declared.Constellation.{Constellation}
use Rattle.block.specs.declared.Constellation.TheVariants.{Qam4, Qam16}
use Rattle.block.specs.Block.{block_of}
use Rattle.channels.specs.declared.Scheme.{Scheme}
use Rattle.channels.specs.Protected.{protected_levels}

-- 001 clause 7.3.3: t is 13 and 21 for 16-QAM's levels 0 and 1, and 21 for 4-QAM.
unfoldable pub sdc_steps : ℕ → List ℕ
sdc_steps sdc = get_or ((13 ∷ 21 ∷ []) ∷ (21 ∷ []) ∷ []) sdc []

-- The SM formula with N1 = 0 and N2 = N_SDC.
unfoldable pub sdc_levels : Scheme → List Level
sdc_levels c =
    let s = c.settings in
    protected_levels c.table 2 0 (n_sdc s) (sdc_rates s.sdc) (sdc_rates s.sdc) (sdc_steps s.sdc)

-- SDC mode 0 is 16-QAM, 1 is 4-QAM.
unfoldable pub sdc_constellation : ℕ → Constellation
sdc_constellation sdc = get_or (Qam16 ∷ Qam4 ∷ []) sdc Qam4

unfoldable pub sdc_block : Scheme → Block
sdc_block c = block_of 0 (sdc_levels c) (sdc_constellation c.settings.sdc) (n_sdc c.settings) 0
