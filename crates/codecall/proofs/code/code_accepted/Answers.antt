-- `code::code_accepted` meets its contract. Assumes nothing.
use Rattle.superframe.specs.Call.{memory_length}
use Rattle.partlengths.specs.Cells.{fac_cells}
use Rattle.channels.proofs.Schemes.{scheme-accepted}
use Rattle.channels.proofs.Lent.{sdc-lent}
use Rattle.codecall.proofs.CodeCalls.{accepted-call}
use Rattle.codecall.proofs.code.code_accepted.Goals as goal

pub code_fac-requires : goal.code_fac-requires
unfolding fac_cells
code_fac-requires c = let p = c.requires in ((scheme-accepted _ p.fits.scheme).table, p.bytes.faclong, p.cells.faclong)

pub code_block-requires : goal.code_block-requires
code_block-requires c =
    let p = c.requires in
    rw c.sdc_block.ensures (sdc-lent (scheme-accepted _ p.fits.scheme) p.bytes.sdclong p.cells.sdclong)

pub code_msc-requires : goal.code_msc-requires
unfolding memory_length
code_msc-requires c =
    let p = c.requires in
    record {
      fits = record { allowed = scheme-accepted _ p.fits.scheme; position = p.order.position; count = p.order.count; slots = p.fits.long };
      input = p.bytes.msclong;
      numbers = p.cells.msclong;
    }

pub returns : goal.returns
returns c =
    accepted-call _ _ _ _ _ _ _ _ _ _ _ _ _ c.code_msc.ensures c.code_fac.ensures
    (rw c.sdc_block.ensures at c.code_block.ensures)

pub sdc_block-requires : goal.sdc_block-requires
sdc_block-requires c = scheme-accepted _ c.requires.fits.scheme
