-- What the functions of this crate require and promise: nothing of 01 is stated here.
use Rattle.std.specs.Prelude.{ℕ, ◌+◌, ◌-◌, ◌*◌, ◌/◌, ◌%◌, ◌≤◌, ◌<◌, ◌≡◌, cond, List, [], ◌∷◌, ◌++◌, length, get_or, take, drop, ℤ, pos, negsuc, leb, ltb}
use Rattle.settings.specs.declared.Settings.{Settings}
use Rattle.settings.specs.Accepted.{Accepted}
use Rattle.settings.specs.Lengths.{n_mux}
use Rattle.settings.specs.Sizes.{depth}
use Rattle.lists.specs.Lists.{table}
use Rattle.cellbytes.specs.CellBytes.{cell_byte}
use Rattle.interleaver.specs.Interleaving.{place}
use Rattle.interleaver.specs.Tables.{places}
use Rattle.channels.specs.Scheme.{SchemeAccepted}
use Rattle.superframe.specs.declared.State.{State}
use Rattle.superframe.specs.Memory.{slot_size}
use Rattle.superframe.specs.Interleaving.{advanced, slot_before}
use Rattle.superframe.specs.Code.{progress_of, state_of}

-- State and memory in order: allowed settings and table, position and count below the depth, and memory of its length.
pub record StateFits (state : State) (memory : List ℕ) : Type 0 where
  pub allowed : SchemeAccepted state.scheme
  pub position : state.position < depth state.scheme.settings
  pub count : state.count < depth state.scheme.settings
  pub slots : length memory ≡ depth state.scheme.settings * n_mux state.scheme.settings

-- The same with a row.
pub record RowLent (state : State) (memory : List ℕ) (row : List ℤ) : Type 0 where
  pub fits : StateFits state memory
  pub long : length row ≡ slot_size state.scheme.settings

-- Room for the places of a row's cells, and one number more.
pub record RowRoom (s : Settings) (out : List ℕ) : Type 0 where
  pub settings : Accepted s
  pub room : n_mux s < length out

-- What making a row's table leaves in its room: its places, a 0, and what stood behind.
unfoldable pub row_over : Settings → List ℕ → List ℕ
row_over s out = (places 5 (n_mux s) ++ (0 ∷ [])) ++ drop (n_mux s + 1) out

-- The places of a row's cells: cell i of a row is cell P(i) of its frame.
pub record RowOrder (s : Settings) (order : List ℕ) : Type 0 where
  pub room : n_mux s ≤ length order
  pub order_is : take (n_mux s) order ≡ places 5 (n_mux s)

-- The state after a frame: of a progress, position and count don't depend on memory.
abbrev pub next_state : State → State
next_state state = state_of state.scheme (advanced (depth state.scheme.settings) [] (progress_of state []))

-- Where the slot of n cells before a slot begins, of where the slot begins; before the first comes the last.
unfoldable pub previous : ℕ → ℕ → ℕ → ℕ
previous n last at = cond (ltb at n) last (at - n)

-- The table of places that n cells of a row go by.
pub record ByPlaces (n : ℕ) (order : List ℕ) : Type 0 where
  pub room : n ≤ length order
  pub place_is : (i : ℕ) → i < n → get_or order i 0 ≡ place 5 n i

-- What sending and taking a row of n cells require of memory, with the depth D.
pub record RowFits (D n position : ℕ) (memory : List ℕ) : Type 0 where
  pub low : 5 ≤ n
  pub most : length memory ≤ 30590
  pub within : position < D
  pub slots : length memory ≡ D * n

-- Both, with the depth by the lengths.
pub record Goes (n position : ℕ) (order memory : List ℕ) : Type 0 where
  pub fits : RowFits (length memory / n) n position memory
  pub order_is : ByPlaces n order

-- The bytes of the sent cells: cell i is cell P(i) of the slot that so many slots before the position is written as the cell is delayed.
unfoldable pub sent_bytes : ℕ → ℕ → List ℕ → ℕ → List ℕ
sent_bytes D n memory position = table (λ i. get_or memory (slot_before D position (i % D) * n + place 5 n i) 0) 0 n

-- The same with the depth by the lengths.
abbrev pub bytes_from : List ℕ → ℕ → ℕ → List ℕ
bytes_from memory position n = sent_bytes (length memory / n) n memory position

-- What memory holds of a cell after its row: its byte, or what it held where the cell is ignored.
unfoldable pub cell_after : ℕ → ℕ → ℤ → ℤ → ℕ → ℕ
cell_after d count re im held = cond (leb d count) (cell_byte re im) held

-- The numbers of the fillers, as many as there can be.
abbrev pub filler_numbers : List ℤ
filler_numbers = pos 1 ∷ pos 1 ∷ pos 1 ∷ negsuc 0 ∷ []
