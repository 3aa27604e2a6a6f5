-- What bits are coded to: any level with one pattern and a tail, and the FAC block. 02, S-9; 01 "From bits to cells".
use Rattle.std.specs.Prelude.{ℕ, ◌+◌, ◌%◌, List, [], ◌∷◌}
use Rattle.lists.specs.Lists.{table}
use Rattle.patterns.specs.Patterns.{table65, pattern, R3/5}
use Rattle.component.specs.Codeword.{codeword, tail_bits}
use Rattle.component.specs.Decoding.{segment}
use Rattle.interleaver.specs.Interleaving.{interleaved}
use Rattle.block.specs.Dispersal.{p}
use Rattle.partlengths.specs.Formulas.{fac_bits}

-- Bits added modulo 2, one by one.
unfoldable pub added : List ℕ → List ℕ → List ℕ
added [] bits = []
added (flip ∷ flips) [] = []
added (flip ∷ flips) (bit ∷ bits) = ((bit + flip) % 2) ∷ added flips bits

-- The coded bits of a level with one pattern: its bits, with others added before coding, and then six zero bits punctured by the tail's pattern.
unfoldable pub coded : List ℕ → List ℕ → List ℕ → List ℕ → List ℕ
coded pattern tail flips bits = codeword 0 (segment pattern (added flips bits) ∷ segment tail tail_bits ∷ [])

-- An FAC block in the coder's order: dispersed by p(0) .. p(71), and coded at rate 3/5. Its tail goes on with the 3/5 pattern: 72 bits are 24 whole
-- rounds, so that the tail begins at the first column. The patterns are the standard's, whichever table a run has (02, S-11).
unfoldable pub fac_flips : List ℕ
fac_flips = table p 0 fac_bits

unfoldable pub fac_coded : List ℕ → List ℕ
fac_coded block = coded (pattern table65 R3/5) (pattern table65 R3/5) fac_flips block

-- The same in the order of the mapped cells: t = 21 for 4-QAM.
unfoldable pub fac_sent : List ℕ → List ℕ
fac_sent block = interleaved 0 21 (fac_coded block)
