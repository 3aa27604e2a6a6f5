-- What functions inside a call require and find: nothing of 02 is stated here.
use Rattle.std.specs.Prelude.{ℕ, ◌+◌, ◌*◌, ◌/◌, ◌%◌, ◌≤◌, ◌<◌, ◌≡◌, cond, List, length, eqb}
use Rattle.cellbytes.specs.CellBytes.{numbers}
use Rattle.holdlines.specs.declared.Form.{Form}
use Rattle.settings.specs.declared.Settings.{Settings}
use Rattle.settings.specs.Accepted.{Accepted}
use Rattle.settings.specs.Lengths.{n_mux}
use Rattle.settings.specs.Sizes.{depth}
use Rattle.holdlines.specs.Files.{number_digits, lines_of, Held, file_length}

-- The four bits of a cell's number k: the byte's high half for an even one.
unfoldable pub half_of : ℕ → ℕ → ℕ
half_of b k = cond (eqb (k % 2) 0) (b / 16) (b % 16)

-- Room for the line of some cells.
pub record LineRoom (form : Form) (cells line : List ℕ) : Type 0 where
  pub few : length cells ≤ 6118
  pub long : length line ≡ 2 * length cells * number_digits form + 1

-- Lines of n cells each, and room for them after a heading of three bytes.
unfoldable pub lines_from : Form → ℕ → ℕ → List ℕ → List ℕ
lines_from form n k memory = lines_of form (2 * n) k (numbers memory)

pub record LinesRoom (form : Form) (n k : ℕ) (memory out : List ℕ) : Type 0 where
  pub few : n ≤ 6118
  pub deep : k ≤ 5
  pub cells : length memory ≡ k * n
  pub room : length out ≡ 3 + k * (2 * n * number_digits form + 1)

-- What is held by position, count and memory.
unfoldable pub held_from : ℕ → ℕ → List ℕ → Held
held_from position count memory = record { position = position; count = count; numbers = numbers memory }

-- Settings that are allowed, a position and a count of one digit, memory, and room for its file.
pub record FileRoom (form : Form) (s : Settings) (position count : ℕ) (memory out : List ℕ) : Type 0 where
  pub accepted : Accepted s
  pub low : position < 16
  pub few : count < 16
  pub cells : length memory ≡ depth s * n_mux s
  pub room : length out ≡ file_length form s
