-- The test over the pairings, computed. Assumes nothing.
use mathlib.Core.Path.{◌≡◌, refl}
use mathlib.Core.Bool.{true}
use Rattle.lists.specs.Lists.{table, total}
use Rattle.partlengths.specs.Cells.{entry, sdc_table, super_table, fac_cells}
use Rattle.settings.specs.Refusal.{first, paired}
use Rattle.kinds.specs.Carriers.{table80, frame_symbols, lower_table, upper_table, lower, upper, carriers, unused}
use Rattle.kinds.specs.References.{table84, frequency, table86, table87, table88, table89, time, table90, spacing, offset, is_gain}
use Rattle.kinds.specs.Control.{table93, table94, table95, table96, fac_carriers, sdc_symbols, is_sdc}
use Rattle.kinds.specs.Kinds.{fac, sdc, msc, has, data_kind, kind_of}
use Rattle.placing.specs.Cells.{count}
use Rattle.grid.specs.Counts.{symbol_count, symbols_count, right_pairing, every_below, right_grid}

pub right_grid_lem : right_grid ≡ true
unfolding right_grid every_below right_pairing symbols_count symbol_count count table total entry sdc_table super_table fac_cells first paired table80 frame_symbols lower_table upper_table lower upper carriers unused table84 frequency table86 table87 table88 table89 time table90 spacing offset is_gain table93 table94 table95 table96 fac_carriers sdc_symbols is_sdc fac sdc msc has data_kind kind_of
right_grid_lem = refl
