-- Settings and their refusals. 01 "Settings" and "Operations", Lengths.
use Rattle.std.specs.Prelude.{ℕ, ◌-◌, Bool, cond, not, ◌&&◌, ◌||◌, ltb, eqb}
use Rattle.partlengths.specs.Cells.{entry, mux_table}
use Rattle.partlengths.specs.Rates.{top_level}
use Rattle.partlengths.specs.Formulas.{hierarchical, cells_a}
use Rattle.settings.specs.declared.Settings.{Settings}

-- Occupancy 0 to 5; modes C and D have only 3 and 5.
unfoldable pub paired : ℕ → ℕ → Bool
paired mode occupancy = ltb occupancy 6 && (ltb mode 2 || (eqb occupancy 3 || eqb occupancy 5))

-- The first test that holds gives its number.
unfoldable pub first : Bool → ℕ → ℕ → ℕ
first test number otherwise = cond test number otherwise

-- Refusals 1 to 6, 0 where none applies: the lowest number that does is given.
unfoldable pub range_refusal : Settings → ℕ
range_refusal s =
    first (ltb 3 s.mode) 1
    (first (not (paired s.mode s.occupancy)) 2
    (first (ltb 3 s.msc) 3
    (first (ltb (top_level s.msc) s.levela || ltb (top_level s.msc) s.levelb) 4
    (first (ltb 3 s.vspp || (not (hierarchical s.msc) && not (eqb s.vspp 0))) 5
    (first (ltb 1 s.sdc || ltb 1 s.interleaving) 6 0)))))

-- Refusals 1 to 7: 7 is N1 above N_MUX - 20.
unfoldable pub refusal : Settings → ℕ
refusal s =
    first (ltb 0 (range_refusal s)) (range_refusal s)
    (first (ltb (entry mux_table s.mode s.occupancy - 20) (cells_a s.msc s.levela s.x)) 7 0)
