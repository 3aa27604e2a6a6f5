-- What the functions of the search require and promise: nothing of 02 is stated here.
use Rattle.std.specs.Prelude.{ℕ, zero, suc, ◌+◌, ◌*◌, ◌/◌, ◌%◌, ◌^◌, ◌≤◌, ◌<◌, ◌≡◌, cond, List, [], ◌∷◌, ◌++◌, length, get_or, drop, eqb}
use Rattle.std.specs.Int.Count.{ones}
use Rattle.component.specs.Bits.{Bits}
use Rattle.block.specs.Packing.{packed}
use Rattle.component.specs.Register.{next}
use Rattle.component.specs.Codeword.{following}
use Rattle.patterns.specs.declared.Pattern.{Pattern}
use Rattle.patterns.specs.Patterns.{Sound}
use Rattle.patterns.specs.Clauses.{Held}
use Rattle.component.specs.Decoding.{coded_length}
use Rattle.trellis.specs.Nearest.{disagreement, nearest}
use Rattle.nearest.specs.Coded.{coded, fac_sent}
use Rattle.nearest.specs.Fac.{fac_nearest}
use Rattle.trellis.specs.Clauses.{Choices, best, choice}

-- The next value where a column keeps its bit, and unknown where it does not.
unfoldable pub value_or : ℕ → List ℕ → ℕ
value_or kept values = cond (eqb kept 1) (get_or values 0 2) 2

-- k values for a column, of those received.
unfoldable pub spread : ℕ → ℕ → List ℕ → List ℕ
spread zero column values = []
spread (suc k) column values = value_or (column % 2) values ∷ spread k (column / 2) (drop (column % 2) values)

-- Four values for each of n bits, from column i on.
unfoldable pub spread_all : List ℕ → ℕ → ℕ → List ℕ → List ℕ
spread_all pattern i zero values = []
spread_all pattern i (suc n) values =
    spread 4 (get_or pattern i 0) values
    ++ spread_all pattern (following pattern i) n (drop (ones (get_or pattern i 0)) values)

-- Four values for each of n bits and of the six tail bits.
unfoldable pub restored : List ℕ → List ℕ → ℕ → List ℕ → List ℕ
restored pattern tail n values = spread_all pattern 0 n values ++ spread_all tail 0 6 (drop (coded_length pattern 0 n) values)

-- The bits that the choices lead through.
unfoldable pub chosen : ℕ → List ℕ → List ℕ → List ℕ
chosen register [] values = []
chosen register (flip ∷ flips) values =
    choice register flip flips values
    ∷ chosen (next register ((choice register flip flips values + flip) % 2)) flips (drop 4 values)

-- spread_column requires four digits, and room for four values; places stay far from wrapping.
pub record Spreads (column at : ℕ) (out : List ℕ) (to : ℕ) : Type 0 where
  pub four : column < 16
  pub few : at ≤ 65536
  pub room : to + 4 ≤ length out

-- spread_segment requires a sound pattern, and room for four values a bit.
pub record SpreadsAll (pattern : List ℕ) (at : ℕ) (out : List ℕ) : Type 0 where
  pub sound : Sound pattern
  pub whole : length out % 4 ≡ 0
  pub few : at + length out ≤ 65536

-- restore requires two sound patterns, and room for four values a bit, those of the tail included.
pub record Restores (pattern tail out : List ℕ) : Type 0 where
  pub sound : Sound pattern
  pub sound_tail : Sound tail
  pub whole : length out % 4 ≡ 0
  pub tailed : 24 ≤ length out
  pub few : length out ≤ 4504

-- choose requires bits to add, four values for each and for the tail's six, and room for the choices.
pub record Chooses (flips values words : List ℕ) : Type 0 where
  pub bits : Bits flips
  pub few : length flips ≤ 1120
  pub room : length values ≡ 4 * length flips + 24
  pub same : length words ≡ length flips

-- It promises the least disagreement from register 0 on, and the choices at every bit.
pub record Chosen (flips values words : List ℕ) (count : ℕ) : Type 0 where
  pub same : length words ≡ length flips
  pub least : count ≡ best 0 flips values
  pub choices : (j : ℕ) → j < length flips → Choices (get_or flips j 0) (drop (suc j) flips) (drop (4 * j) values) (get_or words j 0)

-- The bits that words of choices lead through.
unfoldable pub led : ℕ → List ℕ → List ℕ → List ℕ
led register [] words = []
led register (flip ∷ flips) words =
    (get_or words 0 0 / 2 ^ (register / 2) % 2)
    ∷ led (next register ((get_or words 0 0 / 2 ^ (register / 2) % 2 + flip) % 2)) flips (drop 1 words)

-- follow requires bits to add, a word for each, and room for the bits.
pub record Follows (flips words out : List ℕ) : Type 0 where
  pub bits : Bits flips
  pub same : length words ≡ length flips
  pub room : length out ≡ length flips

-- A working buffer has as many elements as its function says.
pub record Long (n : ℕ) (buffer : List ℕ) : Type 0 where
  pub long : length buffer ≡ n

-- search requires sound patterns, bits to add, one SDC level of them at most, and room for as many.
pub record Searches (pattern tail flips out : List ℕ) : Type 0 where
  pub sound : Sound pattern
  pub sound_tail : Sound tail
  pub bits : Bits flips
  pub few : length flips ≤ 1120
  pub same : length out ≡ length flips

-- search_with requires two sound patterns that are held, and the rest of that.
pub record SearchesWith (p t : Pattern) (flips out : List ℕ) : Type 0 where
  pub held : Held p
  pub held_tail : Held t
  pub bits : Bits flips
  pub few : length flips ≤ 1120
  pub same : length out ≡ length flips

-- Both promise the nearest bits and their number of disagreements.
pub record Found (pattern tail flips received out : List ℕ) (count : ℕ) : Type 0 where
  pub bits : out ≡ nearest (length flips) (coded pattern tail flips) received
  pub counted : count ≡ disagreement received (coded pattern tail flips out)

-- nearest_block requires 130 values and 9 bytes.
pub record Receives (received block : List ℕ) : Type 0 where
  pub values : length received ≡ 130
  pub room : length block ≡ 9

-- It promises the nearest block, packed, and its number of disagreements.
pub record Nearby (received block : List ℕ) (count : ℕ) : Type 0 where
  pub bytes : block ≡ packed (fac_nearest received)
  pub counted : count ≡ disagreement received (fac_sent (fac_nearest received))

-- nearest_bits promises it as bits.
pub record NearbyBits (received bits : List ℕ) (count : ℕ) : Type 0 where
  pub block : bits ≡ fac_nearest received
  pub counted : count ≡ disagreement received (fac_sent (fac_nearest received))
