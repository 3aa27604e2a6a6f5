-- What inner functions require and promise: nothing of 001 or 02 is stated here.
use Rattle.std.specs.Prelude.{ℕ, ◌<◌, ◌≡◌, Bool, List, [], ◌∷◌, length, get_or}
use Rattle.lists.specs.Lists.{table}
use Rattle.settings.specs.Refusal.{first}
use Rattle.kinds.specs.Carriers.{carriers, unused}
use Rattle.kinds.specs.References.{table90, frequency, time, is_gain}
use Rattle.kinds.specs.declared.tables.GainReferences.{GainReferences}
use Rattle.partlengths.specs.Cells.{entry}
use Rattle.kinds.specs.Control.{fac_carriers}
use Rattle.kinds.specs.Kinds.{has}
use Rattle.kinds.specs.Places.{places}

-- The lists of carriers as the code has them one after another: unused, frequency references, time references, and the rows of FAC cells.
unfoldable pub carrier_list : ℕ → ℕ → List ℕ
carrier_list mode list = get_or (unused mode ∷ frequency mode ∷ time mode 0 ∷ table (fac_carriers mode) 0 24) list []

-- A row of kinds with one kind more, at the carriers that pass a test.
unfoldable pub painted : (ℕ → Bool) → ℕ → List ℕ → List ℕ
painted test kind row = table (λ k. first (test k) kind (get_or row k 0)) 0 (length row)

-- A mode's row of table 90.
pub record RowOf90 (mode : ℕ) (row : GainReferences) : Type 0 where
  pub k0 : row.k0 ≡ entry table90 mode 0
  pub x : row.x ≡ entry table90 mode 1
  pub y : row.y ≡ entry table90 mode 2
  pub spacing : row.spacing ≡ entry table90 mode 3

-- A robustness mode and an occupancy, allowed together or not.
pub record Pairing (mode occupancy : ℕ) : Type 0 where
  pub mode_low : mode < 4
  pub occupancy_low : occupancy < 6

-- A row of data with all that goes before data: what goes first is painted last.
unfoldable pub painted_symbol : ℕ → ℕ → List ℕ → List ℕ
painted_symbol mode symbol row =
    painted (has (unused mode)) 0
    (painted (has (frequency mode)) 1
    (painted (has (time mode symbol)) 2 (painted (is_gain mode symbol) 3 (painted (has (fac_carriers mode symbol)) 4 row))))

-- A symbol of a pairing, and a buffer for the kinds of its places.
pub record SymbolFits (mode occupancy symbol : ℕ) (out : List ℕ) : Type 0 where
  pub symbol_low : symbol < 24
  pub long : length out ≡ carriers mode occupancy

-- A buffer for the kinds of all places.
pub record KindsFit (mode occupancy : ℕ) (out : List ℕ) : Type 0 where
  pub pairing : Pairing mode occupancy
  pub long : length out ≡ places mode occupancy
