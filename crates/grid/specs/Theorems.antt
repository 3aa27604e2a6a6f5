-- Theorems on the grid, over the very definitions that the contracts of the calls cite. 02, S-4.
use Rattle.std.specs.Prelude.{ℕ, ◌+◌, ◌*◌, ◌/◌, ◌%◌, ◌≤◌, ◌<◌, ◌≡◌, true, cond, List, length, get_or, take, drop, ℤ, pos, eqb, ltb}
use Rattle.lists.specs.Lists.{table}
use Rattle.partlengths.specs.Cells.{entry, sdc_table, super_table, fac_cells}
use Rattle.settings.specs.declared.Settings.{Settings}
use Rattle.settings.specs.Refusal.{paired}
use Rattle.kinds.specs.Kinds.{fac, sdc, msc}
use Rattle.kinds.specs.Places.{frame_places, places, grid_kinds}
use Rattle.placing.specs.Cells.{count, before, nth, Cells, of_kind}
use Rattle.grid.specs.Calls.{kinds, grid_numbers, cells_fit, place_of, take_of}

-- 1. The places of kinds 4 to 6 number 65 per frame, N_SDC and N_SFA for all sixteen pairings of mode and occupancy.
pub record PlacesCounted : Type 0 where
  pub facs : (mode occupancy : ℕ) → mode < 4 → paired mode occupancy ≡ true → (frame : ℕ) → frame < 3
      → count fac (take (frame_places mode occupancy) (drop (frame * frame_places mode occupancy) (grid_kinds mode occupancy))) ≡ fac_cells
  pub sdcs : (mode occupancy : ℕ) → mode < 4 → paired mode occupancy ≡ true → count sdc (grid_kinds mode occupancy) ≡ entry sdc_table mode occupancy
  pub mscs : (mode occupancy : ℕ) → mode < 4 → paired mode occupancy ≡ true → count msc (grid_kinds mode occupancy) ≡ entry super_table mode occupancy

-- A grid that differs from another in kinds and in places of kinds 0 to 3 at most.
pub record SameCells (s : Settings) (g h : List ℤ) : Type 0 where
  pub long : length h ≡ length g
  pub real : (p : ℕ) → p < places s.mode s.occupancy → fac ≤ get_or (kinds s) p 0 → get_or h (3 * p + 1) (pos 0) ≡ get_or g (3 * p + 1) (pos 0)
  pub imaginary : (p : ℕ) → p < places s.mode s.occupancy → fac ≤ get_or (kinds s) p 0 → get_or h (3 * p + 2) (pos 0) ≡ get_or g (3 * p + 2) (pos 0)

-- 2. Taking what was placed gives the cells, also after any change of kinds and of places of kinds 0 to 3.
pub record TakenAsPlaced : Type 0 where
  pub cells : (s : Settings) (cells : Cells) (old g : List ℤ) (out : Cells) → (place_of s cells old).answer ≡ 0
      → SameCells s (place_of s cells old).grid g → cells_fit s out ≡ true → take_of s g out ≡ record { answer = 0; cells = cells }

-- A grid with the definition's kinds, its own cells at kinds 4 to 6, and (0, 0) elsewhere.
unfoldable pub cleaned : List ℕ → List ℤ → List ℤ
cleaned kinds g =
    table
    (λ n.
    cond (eqb (n % 3) 0) (pos (get_or kinds (n / 3) 0))
    (cond (ltb (get_or kinds (n / 3) 0) fac) (pos 0) (get_or g n (pos 0))))
    0
    (3 * length kinds)

-- 3. Placing what was taken from a grid of the right length gives that.
pub record PlacedAsTaken : Type 0 where
  pub grid : (s : Settings) (g out : List ℤ) (old : Cells) → (take_of s g old).answer ≡ 0 → length out ≡ grid_numbers s
      → place_of s (take_of s g old).cells out ≡ record { answer = 0; grid = cleaned (kinds s) g }

-- 4. The ith place of a kind, by symbol and then carrier, has cell i of that kind.
pub record PlacedInOrder (s : Settings) (cells : Cells) (grid : List ℤ) (kind i : ℕ) : Type 0 where
  -- it is a place of the kind, and i places of the kind are before it
  pub has : get_or (kinds s) (nth kind (kinds s) i) 0 ≡ kind
  pub number : before kind (kinds s) (nth kind (kinds s) i) ≡ i
  pub real : get_or grid (3 * nth kind (kinds s) i + 1) (pos 0) ≡ get_or (of_kind kind cells) (2 * i) (pos 0)
  pub imaginary : get_or grid (3 * nth kind (kinds s) i + 2) (pos 0) ≡ get_or (of_kind kind cells) (2 * i + 1) (pos 0)

pub record CellsInOrder : Type 0 where
  pub cells : (s : Settings) (cells : Cells) (old : List ℤ) → (place_of s cells old).answer ≡ 0
      → (kind i : ℕ) → i < count kind (kinds s) → PlacedInOrder s cells (place_of s cells old).grid kind i
