-- The standard's cells for a run, with its table's patterns in place, from its settings and the bits brought, without memory, position or count. 01 "Runs" and "Cell interleaving".
use Rattle.std.specs.Prelude.{ℕ, ◌+◌, ◌-◌, ◌*◌, cond, List, [], ◌++◌, length, get_or, ℤ, pos, leb}
use Rattle.lists.specs.Lists.{table}
use Rattle.settings.specs.Lengths.{n_mux}
use Rattle.settings.specs.Sizes.{depth}
use Rattle.block.specs.Block.{cells_of}
use Rattle.channels.specs.declared.Scheme.{Scheme}
use Rattle.channels.specs.Fac.{fac_block}
use Rattle.channels.specs.Sdc.{sdc_block}
use Rattle.channels.specs.Msc.{msc_block}
use Rattle.superframe.specs.Memory.{slot_size, start_frame}
use Rattle.superframe.specs.Interleaving.{sent_place, delay, fillers}
use Rattle.superframe.specs.Call.{joined}
use Rattle.superframe.specs.Runs.{Bits, SuperFrame}

-- The cells of frame f - d, or of a frame before the first.
unfoldable pub earlier_cells : Scheme → List (List ℕ) → ℕ → ℕ → List ℤ
earlier_cells s frames f d = cond (leb d f) (cells_of (msc_block s) (get_or frames (f - d) [])) (start_frame s)

-- The sent cells of frame f: sent cell i is cell P(i) of frame f - (i mod D).
unfoldable pub standard_row : Scheme → List (List ℕ) → ℕ → List ℤ
standard_row s frames f =
    table (λ k. get_or (earlier_cells s frames f (delay (depth s.settings) k)) (sent_place (n_mux s.settings) k) (pos 0)) 0 (slot_size s.settings)

-- Super frame m: the cells of FAC blocks 3m to 3m + 2 and of SDC block m, the sent cells of frames 3m to 3m + 2, and the fillers.
unfoldable pub super_frame : Scheme → Bits → ℕ → SuperFrame
super_frame s b m =
    record {
      fac = joined (table (λ i. cells_of (fac_block s) (get_or b.fac (3 * m + i) [])) 0 3);
      sdc = cells_of (sdc_block s) (get_or b.sdc m []);
      msc = joined (table (λ i. standard_row s b.frames (3 * m + i)) 0 3) ++ fillers s.settings;
    }

-- The super frames of a run: as many as SDC blocks were brought.
unfoldable pub standard : Scheme → Bits → List SuperFrame
standard s b = table (super_frame s b) 0 (length b.sdc)
