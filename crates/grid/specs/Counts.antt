-- One test over the sixteen pairings of mode and occupancy: the tables of 001 clause 8 have as many places as there are cells. 02, S-4.
use Rattle.std.specs.Prelude.{ℕ, zero, suc, ◌+◌, ◌-◌, ◌*◌, Bool, true, not, ◌&&◌, ◌||◌, eqb}
use Rattle.lists.specs.Lists.{table, total}
use Rattle.partlengths.specs.Cells.{entry, sdc_table, super_table, fac_cells}
use Rattle.settings.specs.Refusal.{paired}
use Rattle.kinds.specs.Carriers.{frame_symbols, lower, carriers}
use Rattle.kinds.specs.Control.{sdc_symbols}
use Rattle.kinds.specs.Kinds.{kind_of, fac, msc}
use Rattle.placing.specs.Cells.{count}

-- How many places of a symbol have this kind, in a transmission frame that has no SDC symbols.
unfoldable pub symbol_count : ℕ → ℕ → ℕ → ℕ → ℕ
symbol_count mode occupancy kind symbol =
    count kind (table (kind_of mode 1 symbol) (lower mode occupancy) (carriers mode occupancy))

-- The same over n symbols from `first` on.
unfoldable pub symbols_count : ℕ → ℕ → ℕ → ℕ → ℕ → ℕ
symbols_count mode occupancy kind first n = total (table (symbol_count mode occupancy kind) first n)

-- The test of a pairing: 65 FAC places in a frame; as many data places in the SDC symbols as N_SDC; and as many in their places in two frames and in the other symbols of three as N_SFA.
unfoldable pub right_pairing : ℕ → ℕ → Bool
right_pairing mode occupancy =
    eqb (symbols_count mode occupancy fac 0 (frame_symbols mode)) fac_cells
    && (eqb (symbols_count mode occupancy msc 0 (sdc_symbols mode)) (entry sdc_table mode occupancy)
    && eqb
    (2 * entry sdc_table mode occupancy + 3 * symbols_count mode occupancy msc (sdc_symbols mode) (frame_symbols mode - sdc_symbols mode))
    (entry super_table mode occupancy))

-- A test of all numbers below n.
unfoldable pub every_below : ℕ → (ℕ → Bool) → Bool
every_below zero test = true
every_below (suc n) test = every_below n test && test n

-- The test over all pairings.
unfoldable pub right_grid : Bool
right_grid =
    every_below 4 (λ mode. every_below 6 (λ occupancy. not (paired mode occupancy) || right_pairing mode occupancy))
