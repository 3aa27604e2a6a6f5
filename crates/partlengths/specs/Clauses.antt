-- What the tables and formulas require of their numbers, and how the code holds and sums them: nothing of 01 is stated here.
use Rattle.std.specs.Prelude.{ℕ, ◌+◌, ◌*◌, ◌/◌, ◌%◌, ◌≤◌, ◌≡◌, List, [], map, get_or}
use Rattle.lists.specs.Lists.{total}
use Rattle.patterns.specs.Patterns.{RX, RY}
use Rattle.partlengths.specs.Rates.{top_level, common_denominator}

-- A protection level of part A or B that an MSC mode has.
pub record Level (msc level : ℕ) : Type 0 where
  pub msc_low : msc ≤ 3
  pub level_low : level ≤ top_level msc

-- Cells of part A: a multiple of the level's common denominator.
pub record Whole (msc level n : ℕ) : Type 0 where
  pub has : Level msc level
  pub multiple : n % common_denominator msc level ≡ 0
  pub low : n ≤ 65535

-- Numbers that round_up divides.
pub record Rounds (a b : ℕ) : Type 0 where
  pub some : 1 ≤ b
  pub low : a + b ≤ 4294967295

-- The entry of a table by row and column, or what stands for every other pair.
unfoldable pub looked_up : {A : Type 0} → List (List A) → ℕ → ℕ → A → A
looked_up table row column other = get_or (get_or table row []) column other

-- A level's input bits for whole rounds of its rate's pattern in so many coded bits: RX floor(coded / RY).
unfoldable pub share : ℕ → ℕ → ℕ
share coded rate = RX rate * (coded / RY rate)

-- The sum over the levels.
unfoldable pub shares : ℕ → List ℕ → ℕ
shares coded rates = total (map (share coded) rates)
