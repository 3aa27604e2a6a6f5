-- The received cells of blocks and multiplex frames, from the super frames received alone: without memory, position or count. 02, S-13.
use Rattle.std.specs.Prelude.{ℕ, ◌+◌, ◌*◌, ◌/◌, ◌%◌, List, [], get_or, ℤ, pos}
use Rattle.lists.specs.Lists.{table}
use Rattle.interleaver.specs.Deinterleaving.{deinterleaved}
use Rattle.partlengths.specs.Cells.{fac_cells}
use Rattle.settings.specs.declared.Settings.{Settings}
use Rattle.settings.specs.Lengths.{n_mux}
use Rattle.settings.specs.Sizes.{depth}
use Rattle.channels.specs.declared.Scheme.{Scheme}
use Rattle.superframe.specs.Memory.{slot_size}
use Rattle.superframe.specs.Call.{part}
use Rattle.keptcells.specs.ReadOn.{kept_cells}
use Rattle.superframe.specs.Runs.{SuperFrame}

-- Super frame m of those received, from 0; empty past the last.
unfoldable pub received_at : List SuperFrame → ℕ → SuperFrame
received_at received m = get_or received m (record { fac = []; sdc = []; msc = [] })

-- FAC block i is part i mod 3 of super frame i / 3's FAC cells; SDC block i is that of super frame i.
unfoldable pub received_fac : List SuperFrame → ℕ → List ℤ
received_fac received i = part (2 * fac_cells) (received_at received (i / 3)).fac (i % 3)

unfoldable pub received_sdc : List SuperFrame → ℕ → List ℤ
received_sdc received i = (received_at received i).sdc

-- Row f is part f mod 3 of super frame f / 3's MSC cells, (0, 0) for each that is no point.
unfoldable pub received_row : Scheme → List SuperFrame → ℕ → List ℤ
received_row s received f = part (slot_size s.settings) (kept_cells s (received_at received (f / 3)).msc) (f % 3)

-- Of the cells in which rows carry frame f, in the order sent, the real numbers (j = 0) or the imaginary ones (j = 1): cell i is of row f + (i mod D).
unfoldable pub sent_numbers : Settings → (ℕ → List ℤ) → ℕ → ℕ → List ℤ
sent_numbers s rows f j = table (λ i. get_or (rows (f + i % depth s)) (2 * i + j) (pos 0)) 0 (n_mux s)

-- The cells of frame f in mapping order: cell P(i) is sent cell i, with t = 5.
unfoldable pub carried_frame : Settings → (ℕ → List ℤ) → ℕ → List ℤ
carried_frame s rows f = table (λ k. get_or (deinterleaved (pos 0) 5 (sent_numbers s rows f (k % 2))) (k / 2) (pos 0)) 0 (slot_size s)

unfoldable pub received_frame : Scheme → List SuperFrame → ℕ → List ℤ
received_frame s received f = carried_frame s.settings (received_row s received) f
