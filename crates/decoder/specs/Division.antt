-- Decoding many bits at a time: nothing of 01 is stated here. As polynomials modulo 2, b0 is the input times mask 133 octal, and the mask times itself has
-- its digits twice as far apart. So b0 times the mask, and that times the mask with its digits two apart, is the input times the mask with its digits four apart.
use Rattle.std.specs.Prelude.{ℕ, ◌+◌, ◌-◌, ◌*◌, ◌%◌, ◌≤◌, ◌<◌, ◌≡◌, List, length, get_or}
use Rattle.component.specs.Bits.{Bits}
use Rattle.component.specs.Decoding.{coded_length}
use Rattle.patterns.specs.Patterns.{Sound}

-- The five bits of a list that stand a mask's digits before a place, added modulo 2: the digits stand a step apart.
unfoldable pub product : ℕ → List ℕ → ℕ → ℕ
product step bits j =
    (get_or bits j 0 + get_or bits (j - 2 * step) 0 + get_or bits (j - 3 * step) 0 + get_or bits (j - 5 * step) 0 + get_or bits (j - 6 * step) 0) % 2

-- They are bits, and they are there.
pub record Reaches (step : ℕ) (bits : List ℕ) (j : ℕ) : Type 0 where
  pub input : Bits bits
  pub back : 6 * step ≤ j
  pub there : j < length bits

-- Bits times the mask, from the place on where its own square reaches.
pub record Multiplied (step : ℕ) (bits bits' : List ℕ) : Type 0 where
  pub same : length bits' ≡ length bits
  pub before : (j : ℕ) → j < 12 * step → get_or bits' j 0 ≡ get_or bits j 0
  pub from : (j : ℕ) → 12 * step ≤ j → j < length bits → get_or bits' j 0 ≡ product step bits j

-- Bits that times the mask with its digits four apart are the given ones: the first 24 are given themselves.
pub record Divided (bits bits' : List ℕ) : Type 0 where
  pub same : length bits' ≡ length bits
  pub before : (j : ℕ) → j < 24 → get_or bits' j 0 ≡ get_or bits j 0
  pub from :
      (j : ℕ) → 24 ≤ j → j < length bits
      → get_or bits' j 0 ≡ (get_or bits j 0 + get_or bits' (j - 8) 0 + get_or bits' (j - 12) 0 + get_or bits' (j - 20) 0 + get_or bits' (j - 24) 0) % 2

-- The first coded bit of a column, b0, of the coded bits from a place on.
unfoldable pub first_bit : List ℕ → List ℕ → ℕ → ℕ → ℕ
first_bit pattern coded at j = get_or coded (at + coded_length pattern 0 j) 0 % 2

-- The first n columns of each round stand in the buffer by their first bit.
pub record Collected (pattern coded : List ℕ) (at n : ℕ) (out : List ℕ) : Type 0 where
  pub each :
      (i k : ℕ) → i < n → i + k * length pattern < length out
      → get_or out (i + k * length pattern) 0 ≡ first_bit pattern coded at (i + k * length pattern)

-- A sound pattern of few columns, and all coded bits of a segment within the buffer.
pub record Collects (pattern : List ℕ) (stride : ℕ) (coded : List ℕ) (at : ℕ) (out : List ℕ) : Type 0 where
  pub sound : Sound pattern
  pub few : length pattern ≤ 8
  pub round : stride ≡ coded_length pattern 0 (length pattern)
  pub room : at + coded_length pattern 0 (length out) ≤ length coded

-- The columns before column i are collected, and its first coded bit in the buffer stands at a place.
pub record CollectsColumn (pattern : List ℕ) (stride : ℕ) (coded : List ℕ) (at : ℕ) (out : List ℕ) (i : ℕ) : Type 0 where
  pub whole : Collects pattern stride coded (at - coded_length pattern 0 i) out
  pub begun : coded_length pattern 0 i ≤ at
  pub others : Collected pattern coded (at - coded_length pattern 0 i) i out

-- The first bits of a segment times the mask's third power: times the mask, and then times its square.
pub record Raised (pattern coded : List ℕ) (at n : ℕ) (out : List ℕ) : Type 0 where
  pub firsts : List ℕ
  pub once : List ℕ
  pub long : length firsts ≡ n
  pub collected : Collected pattern coded at (length pattern) firsts
  pub one : Multiplied 1 firsts once
  pub two : Multiplied 2 once out
