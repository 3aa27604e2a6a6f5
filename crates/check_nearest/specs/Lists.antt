-- What the functions of this program require of the lists that they are lent: nothing of 02 is stated here.
use Rattle.std.specs.Prelude.{ℕ, ◌≤◌, ◌<◌, ◌≡◌, List, length, get_or}

-- Every number of a list is below m.
pub record Below (m : ℕ) (l : List ℕ) : Type 0 where
  pub low : (k : ℕ) → get_or l k 0 < m

-- A rate, a row of the tail table, and room for as many bits as are added, eight at most.
pub record Lends (k r : ℕ) (flips found : List ℕ) : Type 0 where
  pub rate : k < 13
  pub row : r < 12
  pub few : length flips ≤ 8
  pub same : length found ≡ length flips
