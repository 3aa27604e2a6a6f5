-- The nearest FAC block as a call. 02, S-9.
use Rattle.std.specs.Prelude.{ℕ, ◌*◌, Bool, true, cond, not, ◌&&◌, List, [], ◌∷◌, length, eqb, ltb}
use Rattle.lists.specs.Bytes.{bytes_for}
use Rattle.partlengths.specs.Cells.{fac_cells}
use Rattle.partlengths.specs.Formulas.{fac_bits}
use Rattle.settings.specs.Refusal.{first}
use Rattle.block.specs.Packing.{packed}
use Rattle.trellis.specs.Nearest.{disagreement, nearest}
use Rattle.nearest.specs.Coded.{fac_sent}

-- A received value is 0, 1 or 2.
unfoldable pub all_values : List ℕ → Bool
all_values [] = true
all_values (value ∷ values) = ltb value 3 && all_values values

-- 9: not 130 received values; 10: not 9 bytes and 1 number, by how many they are; 21: a value above 2; 0 is acceptance.
unfoldable pub nearest_refusal_by : List ℕ → ℕ → ℕ → ℕ
nearest_refusal_by received bytes counts =
    first (not (eqb (length received) (2 * fac_cells))) 9
    (first (not (eqb bytes (bytes_for fac_bits) && eqb counts 1)) 10 (first (not (all_values received)) 21 0))

unfoldable pub nearest_refusal : List ℕ → List ℕ → List ℕ → ℕ
nearest_refusal received block count = nearest_refusal_by received (length block) (length count)

-- The block of 72 bits, as it is before dispersal, that is nearest to 130 received values in the order of the mapped cells.
unfoldable pub fac_nearest : List ℕ → List ℕ
fac_nearest received = nearest fac_bits fac_sent received

-- The answer, and the lent block and number as the call leaves them.
pub record NearestYield : Type 0 where
  pub answer : ℕ
  pub block : List ℕ
  pub count : List ℕ

abbrev pub nearest_yield : ℕ → List ℕ → List ℕ → NearestYield
nearest_yield answer block count = record { answer = answer; block = block; count = count }

-- The block packed, and its number of disagreements.
unfoldable pub nearest_accepted : List ℕ → NearestYield
nearest_accepted received =
    nearest_yield 0 (packed (fac_nearest received)) (disagreement received (fac_sent (fac_nearest received)) ∷ [])

-- A refusal leaves both as they were.
unfoldable pub nearest_of : List ℕ → List ℕ → List ℕ → NearestYield
nearest_of received block count =
    cond (eqb (nearest_refusal received block count) 0) (nearest_accepted received)
    (nearest_yield (nearest_refusal received block count) block count)
