-- `signed_bits` meets its contract. Assumes nothing.
use mir.Syntax.{w16}
use mir.Facts.{to_z-of_z}
use Rattle.cellbytes.proofs.Bits.{turned-signed, signed-fits}
use Rattle.cellbytes.proofs.cells.signed_bits.Goals as goal

pub returns : goal.returns
returns c = rw (turned-signed c.args.n c.requires) (to_z-of_z {w = w16} (signed-fits _ c.requires))
