-- The standard's super frame m: its parts, their lengths, and super frames that are equal. Assumes nothing but, for the fillers, the coding's record.
use Prim.Native.Nat.{ℕ, ◌+◌, ◌-◌, ◌*◌, ◌<◌}
use mathlib.Core.Path.{◌≡◌, refl, sym, ap, ◌∙◌}
use mathlib.Core.List.{List, []}
use native.Mathlib.Omega.{arith}
use lib.ListN.{length, get_or, length-append, length-take}
use lib.IntN.{ℤ}
use Rattle.lists.specs.Lists.{table}
use Rattle.lists.proofs.Tables.{length-table, table_from}
use Rattle.channels.specs.declared.Scheme.{Scheme}
use Rattle.partlengths.specs.Cells.{fac_cells}
use Rattle.settings.specs.Lengths.{n_mux, n_sfa}
use Rattle.block.specs.Block.{cells_of}
use Rattle.channels.specs.Fac.{fac_block}
use Rattle.channels.specs.Sdc.{sdc_block}
use Rattle.superframe.specs.Memory.{slot_size}
use Rattle.superframe.specs.Interleaving.{fillers}
use Rattle.superframe.specs.Call.{part, parts, joined}
use Rattle.superframe.specs.Read.{rows_of, fillers_of}
use Rattle.superframe.specs.Clauses.{CellsFit}
use Rattle.superframe.specs.Runs.{Bits}
use Rattle.superframe.specs.Standard.{standard_row, super_frame}
use Rattle.superframe.proofs.Lists.{three_part, only_part, three_parts, only_parts, three_rest, three_length}
use Rattle.superframe.proofs.Coding.{Coding, fac_long_lem, sdc_long_lem}

-- The fillers are those of the super frame's cells that are left by three rows.
pub fillers_long : (s : Scheme) → Coding s → length (fillers s.settings) ≡ 2 * (n_sfa s.settings - 3 * n_mux s.settings)
unfolding fillers
fillers_long s c = rw length-take (omega (arith, c.few))

pub slots_fill : (s : Scheme) → Coding s → 3 * slot_size s.settings + length (fillers s.settings) ≡ 2 * n_sfa s.settings
unfolding slot_size
slots_fill s c = omega (arith, fillers_long s c, c.room)

module _ (s : Scheme) (B : Bits) (m : ℕ) where
  -- The cells of its FAC blocks, and its rows.
  abbrev fac_at : ℕ → List ℤ
  fac_at i = cells_of (fac_block s) (get_or B.fac (3 * m + i) [])

  abbrev row_at : ℕ → List ℤ
  row_at i = standard_row s B.frames (3 * m + i)

  row_long : (i : ℕ) → i < 3 → length (row_at i) ≡ slot_size s.settings
  unfolding standard_row
  row_long i h = length-table _ 0 (slot_size s.settings)

  pub fac-part : (i : ℕ) → i < 3 → part (2 * fac_cells) (super_frame s B m).fac i ≡ fac_at i
  unfolding super_frame
  fac-part = only_part (2 * fac_cells) fac_at (λ i h. fac_long_lem s _)

  pub fac-parts : parts (2 * fac_cells) (super_frame s B m).fac ≡ table fac_at 0 3
  unfolding super_frame
  fac-parts = only_parts (2 * fac_cells) fac_at (λ i h. fac_long_lem s _)

  pub sdc-part : (super_frame s B m).sdc ≡ cells_of (sdc_block s) (get_or B.sdc m [])
  unfolding super_frame
  sdc-part = refl

  pub row-part : (i : ℕ) → i < 3 → part (slot_size s.settings) (super_frame s B m).msc i ≡ row_at i
  unfolding super_frame
  row-part = three_part (slot_size s.settings) row_at row_long (fillers s.settings)

  pub rows_are : rows_of s.settings (super_frame s B m).msc ≡ table (standard_row s B.frames) (3 * m) 3
  unfolding super_frame rows_of
  rows_are = three_parts (slot_size s.settings) row_at row_long (fillers s.settings) ∙ sym (table_from (standard_row s B.frames) (3 * m) 3)

  pub fillers_are : fillers_of s.settings (super_frame s B m).msc ≡ fillers s.settings
  unfolding super_frame fillers_of
  fillers_are = three_rest (slot_size s.settings) row_at row_long (fillers s.settings)

  pub cells_long_lem : Coding s → CellsFit s.settings (super_frame s B m).fac (super_frame s B m).sdc (super_frame s B m).msc
  unfolding super_frame
  cells_long_lem c =
      record {
        faclong = three_length (2 * fac_cells) fac_at (λ i h. fac_long_lem s _);
        sdclong = sdc_long_lem s _;
        msclong = length-append (joined (table row_at 0 3)) (fillers s.settings) ∙ ap (λ n. n + length (fillers s.settings)) (three_length (slot_size s.settings) row_at row_long) ∙ slots_fill s c;
      }
