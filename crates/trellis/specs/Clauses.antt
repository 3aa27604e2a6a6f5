-- What a layer's functions require and promise: nothing of 02 is stated here.
use Rattle.std.specs.Prelude.{ℕ, suc, ◌+◌, ◌*◌, ◌/◌, ◌%◌, ◌^◌, ◌≤◌, ◌<◌, min, ◌≡◌, cond, List, [], ◌∷◌, length, get_or, drop, ltb}
use Rattle.component.specs.Bits.{Bits}
use Rattle.component.specs.Register.{next, parities}
use Rattle.component.specs.Codeword.{tail_bits}
use Rattle.trellis.specs.Nearest.{disagreement}

-- The disagreement of input bits from a register on, with four values a bit.
unfoldable pub along : ℕ → List ℕ → List ℕ → ℕ
along register [] values = 0
along register (bit ∷ bits) values =
    disagreement values (parities (next register bit)) + along (next register bit) bits (drop 4 values)

-- The disagreement at the register that a bit gives, and what is left from there.
unfoldable pub through : (ℕ → ℕ) → ℕ → List ℕ → ℕ
through rest register values = disagreement values (parities register) + rest register

-- The least disagreement from a register on, with the bits that are added and four values a bit; the tail's bits are zero.
unfoldable pub best : ℕ → List ℕ → List ℕ → ℕ
best register [] values = along register tail_bits values
best register (flip ∷ flips) values =
    min (through (λ r. best r flips (drop 4 values)) (next register ((0 + flip) % 2)) values)
    (through (λ r. best r flips (drop 4 values)) (next register ((1 + flip) % 2)) values)

-- The same with the first bit chosen.
unfoldable pub way : ℕ → ℕ → ℕ → List ℕ → List ℕ → ℕ
way register bit flip flips values =
    through (λ r. best r flips (drop 4 values)) (next register ((bit + flip) % 2)) values

-- The bit whose way disagrees less, and `tie` of equals.
unfoldable pub pick : ℕ → ℕ → ℕ → ℕ
pick tie zero-way one_way = cond (ltb zero-way one_way) 0 (cond (ltb one_way zero-way) 1 tie)

-- The choice at a register: of equals the bit is 0 before dispersal.
unfoldable pub choice : ℕ → ℕ → List ℕ → List ℕ → ℕ
choice register flip flips values = pick 0 (way register 0 flip flips values) (way register 1 flip flips values)

-- The least disagreement after every register, with the flips and values that are left: two registers that differ in the oldest bit go on alike.
pub record Costs (flips values costs : List ℕ) : Type 0 where
  pub long : length costs ≡ 64
  pub least : (r : ℕ) → r < 128 → get_or costs (r / 2) 0 ≡ best r flips values

-- The choices after every register, each a binary digit of a word.
pub record Choices (flip : ℕ) (flips values : List ℕ) (word : ℕ) : Type 0 where
  pub digit : (r : ℕ) → r < 128 → word / 2 ^ (r / 2) % 2 ≡ choice r flip flips values

-- way_cost requires a register, four values, and costs that are far from wrapping.
pub record Weighs (values : List ℕ) (at : ℕ) (costs : List ℕ) (register : ℕ) : Type 0 where
  pub room : at + 4 ≤ length values
  pub seven : register < 128
  pub low : get_or costs (register / 2) 0 ≤ 60000

-- step requires bit j, and the costs after it.
pub record Steps (flips values : List ℕ) (j : ℕ) (costs : List ℕ) : Type 0 where
  pub bits : Bits flips
  pub low : j < length flips
  pub few : length flips ≤ 1120
  pub room : 4 * length flips ≤ length values
  pub costs_after : Costs (drop (suc j) flips) (drop (4 * suc j) values) costs

-- It promises the costs before the bit, and its choices.
pub record Stepped (flips values : List ℕ) (j : ℕ) (costs : List ℕ) (word : ℕ) : Type 0 where
  pub costs_before : Costs (drop j flips) (drop (4 * j) values) costs
  pub choices : Choices (get_or flips j 0) (drop (suc j) flips) (drop (4 * j) values) word
