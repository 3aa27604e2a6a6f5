-- `block` meets its contract: settings that pass the check are accepted. Assumes nothing.
use Rattle.std.proofs.Common.{sym}
use Rattle.settings.proofs.Bounds.{accepted_of}
use Rattle.channels.proofs.Schemes.{standard-accepted}
use Rattle.check_blocks.proofs.ByKind.{kind_fits}
use Rattle.check_blocks.proofs.blocks.block.Goals as goal

pub block_of-requires : goal.block_of-requires
block_of-requires c = accepted_of _ (sym c.in-Ok.ensures)

pub block_with-requires : goal.block_with-requires
block_with-requires c = (
  rw c.block_of.ensures (kind_fits _ (standard-accepted (accepted_of _ (sym c.in-Ok.ensures))) _),
  record { drawn = c.byte_buffer-bytes.ensures; read = c.byte_buffer-back.ensures; whole = c.coordinate_buffer-cells.ensures },
)
