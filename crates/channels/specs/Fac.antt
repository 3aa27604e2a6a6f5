-- The FAC block. 01 "From bits to cells"; 001 clauses 7.2.1.2 and 7.5.3, table 74; 02 S-11.
use Rattle.std.specs.Prelude.{[], ◌∷◌}
use Rattle.patterns.specs.Patterns.{pattern}
use Rattle.patterns.specs.Clauses.{pattern_from}
use Rattle.partlengths.specs.Cells.{fac_cells}
use Rattle.partlengths.specs.Formulas.{fac_bits}
use Rattle.partlengths.specs.Rates.{fac_rate}
use Rattle.block.specs.declared.Level.{Level}
use Rattle.block.specs.declared.Block.{Block}
use Rattle.block.specs.declared.Constellation.TheVariants.{Qam4}
use Rattle.block.specs.Block.{block_of}
use Rattle.channels.specs.declared.Scheme.{Scheme}

-- The FAC's one level: 72 bits at rate 3/5. Its tail goes on with the 3/5 pattern: 72 bits are 24 whole rounds, so that the tail begins at the first column.
unfoldable pub fac_level : Scheme → Level
fac_level s =
    let p = pattern_from (pattern s.table fac_rate) in
    record { bitsa = 0; bitsb = fac_bits; patterna = p; patternb = p; tail = p; t = 21 }

-- The FAC uses 4-QAM.
unfoldable pub fac_block : Scheme → Block
fac_block s = block_of 0 (fac_level s ∷ []) Qam4 fac_cells 0
