-- What S-9 asks, of the definitions that the contracts of `search` and `fac_nearest` cite. 02, S-9.
use Rattle.std.specs.Prelude.{ℕ, ◌*◌, ◌≡◌, List, [], ◌∷◌, length, replicate}
use Rattle.component.specs.Bits.{Bits}
use Rattle.partlengths.specs.Cells.{fac_cells}
use Rattle.partlengths.specs.Formulas.{fac_bits}
use Rattle.settings.specs.declared.Settings.{Settings}
use Rattle.block.specs.Dispersal.{dispersed_parts}
use Rattle.block.specs.Block.{streams_of}
use Rattle.channels.specs.Scheme.{standard_scheme}
use Rattle.channels.specs.Fac.{fac_block}
use Rattle.trellis.specs.Nearest.{disagreement, nearest, Nearest}
use Rattle.nearest.specs.Coded.{coded, fac_sent}
use Rattle.nearest.specs.Fac.{fac_nearest}

pub record NearestBlocks : Type 0 where
  -- For every pattern, tail, bits added before coding and number of bits: no other bits disagree less than those that `search` gives, none that
  -- disagree as little are smaller, and the number given is their disagreement.
  pub level : (pattern tail flips received : List ℕ)
      → Nearest (length flips) (coded pattern tail flips) received
      (nearest (length flips) (coded pattern tail flips) received)
      (disagreement received (coded pattern tail flips (nearest (length flips) (coded pattern tail flips) received)))
  -- The same of the FAC block that the call gives, over all 72-bit blocks.
  pub block : (received : List ℕ)
      → Nearest fac_bits fac_sent received (fac_nearest received) (disagreement received (fac_sent (fac_nearest received)))
  -- The coded bits that it is compared by are those that the coder maps to the FAC's cells with the standard's table.
  pub mapped : (s : Settings) (bits : List ℕ) → length bits ≡ fac_bits
      → let fac = fac_block (standard_scheme s) in streams_of fac (dispersed_parts fac.vspp bits) ≡ fac_sent bits ∷ []
  -- Received without damage, a block is found again, and nothing disagrees.
  pub undamaged : (bits : List ℕ) → Bits bits → length bits ≡ fac_bits
      → (fac_nearest (fac_sent bits) ≡ bits) × (disagreement (fac_sent bits) (fac_sent bits) ≡ 0)
  -- If nothing is known, the block is zero.
  pub unknown : fac_nearest (replicate (2 * fac_cells) 2) ≡ replicate fac_bits 0
