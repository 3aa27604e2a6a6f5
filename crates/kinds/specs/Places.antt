-- The places of a transmission super frame, symbol after symbol with carriers rising, and their kinds. 02, S-4.
use Rattle.std.specs.Prelude.{ℕ, ◌+◌, ◌*◌, ◌/◌, ◌%◌, List}
use Rattle.lists.specs.Lists.{table}
use Rattle.kinds.specs.Carriers.{frame_symbols, symbols, lower, carriers}
use Rattle.kinds.specs.Kinds.{kind_of}

-- Places of a transmission frame and of a super frame: one row of k_min to k_max for each symbol.
unfoldable pub frame_places : ℕ → ℕ → ℕ
frame_places mode occupancy = frame_symbols mode * carriers mode occupancy

unfoldable pub places : ℕ → ℕ → ℕ
places mode occupancy = symbols mode * carriers mode occupancy

-- The kind of a place, from its symbol in the super frame and its carrier's number in the row.
unfoldable pub symbol_kind : ℕ → ℕ → ℕ → ℕ → ℕ
symbol_kind mode occupancy n i =
    kind_of mode (n / frame_symbols mode) (n % frame_symbols mode) (lower mode occupancy + i)

unfoldable pub place_kind : ℕ → ℕ → ℕ → ℕ
place_kind mode occupancy p =
    symbol_kind mode occupancy (p / carriers mode occupancy) (p % carriers mode occupancy)

-- The kinds of all places.
unfoldable pub grid_kinds : ℕ → ℕ → List ℕ
grid_kinds mode occupancy = table (place_kind mode occupancy) 0 (places mode occupancy)
