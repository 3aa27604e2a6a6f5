-- Whole rounds of a pattern, coded one column after the other: nothing of 01 is stated here.
use Rattle.std.specs.Prelude.{ℕ, zero, suc, ◌+◌, ◌-◌, ◌*◌, ◌≤◌, ◌<◌, ◌≡◌, List, [], ◌∷◌, ◌++◌, length, get_or, drop}
use Rattle.std.proofs.lemmas.List.Edits.{sets}
use Rattle.lists.specs.Lists.{table}
use Rattle.component.specs.Bits.{Bits}
use Rattle.component.specs.Register.{parities}
use Rattle.component.specs.Codeword.{kept}
use Rattle.component.specs.Decoding.{coded_length}
use Rattle.component.specs.Coding.{Encodes, register_at}
use Rattle.patterns.specs.Patterns.{Sound}

-- Lists stored a stride apart, the first from at on.
unfoldable pub spread : List ℕ → ℕ → ℕ → List (List ℕ) → List ℕ
spread d at stride [] = d
spread d at stride (l ∷ ls) = spread (sets d at l) (at + stride) stride ls

-- What is made of the first register of each of some rounds, stored a round's coded bits apart.
unfoldable pub laid : (ℕ → List ℕ) → List ℕ → ℕ → ℕ → List ℕ → ℕ → ℕ → List ℕ
laid f registers width rounds d at stride = spread d at stride (table (λ q. f (get_or registers (q * width) 0)) 0 rounds)

-- The coded bits of the first n columns of a round, from the registers of its bits.
unfoldable pub columns_coded : List ℕ → (ℕ → ℕ) → ℕ → List ℕ
columns_coded pattern f zero = []
columns_coded pattern f (suc n) = columns_coded pattern f n ++ kept (get_or pattern n 0) (parities (f n))

-- The first register of each round is there, and room for n coded bits in each.
pub record Lays (registers : List ℕ) (width rounds : ℕ) (out : List ℕ) (at stride n : ℕ) : Type 0 where
  pub some : 0 < rounds
  pub few : rounds ≤ length out
  pub reads : (q : ℕ) → q < rounds → q * width < length registers
  pub writes : (q : ℕ) → q < rounds → at + q * stride + n ≤ length out
  pub narrow : n ≤ stride

-- The coded bits of the first n columns of each round, stored a round's coded bits apart.
unfoldable pub rounds_laid : List ℕ → List ℕ → ℕ → ℕ → List ℕ → ℕ → ℕ → List ℕ
rounds_laid pattern registers n rounds d at stride =
    spread d at stride (table (λ q. columns_coded pattern (λ i. get_or registers (i + q * length pattern) 0) n) 0 rounds)

-- All registers of some rounds are there, and room for their coded bits.
pub record LaysRounds (pattern registers : List ℕ) (rounds : ℕ) (out : List ℕ) (at stride : ℕ) : Type 0 where
  pub sound : Sound pattern
  pub round : stride ≡ coded_length pattern 0 (length pattern)
  pub some : 0 < rounds
  pub reads : rounds * length pattern ≤ length registers
  pub writes : at + rounds * stride ≤ length out

-- Whole rounds of some bits, two and two, from a place behind the first seven bits: no more than a block has, and room for their coded bits.
pub record EncodesRounds (pattern : List ℕ) (stride : ℕ) (bits : List ℕ) (first pairs : ℕ) (out : List ℕ) (at : ℕ) : Type 0 where
  pub sound : Sound pattern
  pub input : Bits bits
  pub round : stride ≡ coded_length pattern 0 (length pattern)
  pub begun : 7 ≤ first
  pub some : 0 < 2 * pairs
  pub few : 2 * pairs * length pattern ≤ 2048
  pub there : first + 2 * pairs * length pattern ≤ length bits
  pub room : at + 2 * pairs * stride ≤ length out

-- So many pairs of rounds are among the bits that are left, and no more than a block has.
pub record Pairs (left width pairs : ℕ) : Type 0 where
  pub there : 2 * pairs * width ≤ left
  pub few : 2 * pairs * width ≤ 2048

-- What is left of a segment from a place behind its first seven rounds on: room for its coded bits.
pub record EncodesBlocks (pattern bits : List ℕ) (first : ℕ) (out : List ℕ) (at : ℕ) : Type 0 where
  pub left : Encodes pattern (register_at bits (first - 7)) (drop first bits) out at
  pub input : Bits bits
  pub begun : 7 * length pattern ≤ first
  pub there : first ≤ length bits
  pub few : length pattern ≤ 8
