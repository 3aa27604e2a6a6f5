-- What coding and reading a block require, for FAC block, SDC block and multiplex frame. Assumes nothing.
use Prim.Native.Nat.{ℕ, ◌*◌}
use mathlib.Core.Path.{◌≡◌}
use mathlib.Core.List.{List}
use lib.ListN.{length}
use lib.IntN.{ℤ}
use Rattle.lists.specs.Bytes.{bytes_for}
use Rattle.patterns.specs.Loaded.{Allowed}
use Rattle.partlengths.specs.Cells.{fac_cells}
use Rattle.partlengths.specs.Formulas.{fac_bits, round_up}
use Rattle.settings.specs.Lengths.{n_mux, n_sdc}
use Rattle.settings.specs.Sizes.{frame_bytes, sdc_bytes}
use Rattle.block.specs.Fits.{BlockLent}
use Rattle.channels.specs.declared.Scheme.{Scheme}
use Rattle.channels.specs.Scheme.{SchemeAccepted}
use Rattle.channels.specs.Fac.{fac_block}
use Rattle.channels.specs.Sdc.{sdc_block}
use Rattle.channels.specs.Msc.{msc_block}
use Rattle.channels.proofs.Msc.{msc-bits, msc-fits}
use Rattle.channels.proofs.Sdc.{sdc-bits, sdc-fits}
use Rattle.channels.proofs.Fac.{fac-bits, fac-fits}

module _ {bytes : List ℕ} {cells : List ℤ} where
  pub msc-lent : {c : Scheme} → SchemeAccepted c → length bytes ≡ frame_bytes c.settings → length cells ≡ 2 * n_mux c.settings → BlockLent (msc_block c) bytes cells
  unfolding msc_block frame_bytes
  msc-lent {c} h a b = record { fits = msc-fits h; long = rw (msc-bits h) a; cells = b }

  pub sdc-lent : {c : Scheme} → SchemeAccepted c → length bytes ≡ sdc_bytes c.settings → length cells ≡ 2 * n_sdc c.settings → BlockLent (sdc_block c) bytes cells
  unfolding sdc_block sdc_bytes
  sdc-lent {c} h a b = record { fits = sdc-fits h; long = rw (sdc-bits c) a; cells = b }

  pub fac-lent : (c : Scheme) → Allowed c.table → length bytes ≡ 9 → length cells ≡ 130 → BlockLent (fac_block c) bytes cells
  unfolding fac_block bytes_for round_up fac_bits fac_cells
  fac-lent c h a b = record { fits = fac-fits c h; long = rw (fac-bits c) a; cells = b }
