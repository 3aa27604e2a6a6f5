-- `read_packed` meets its contract. Assumes nothing.
use Rattle.candidate.proofs.Packed.{packed_is, bits_left}
use Rattle.candidate.proofs.read.read_packed.Goals as goal

pub returns : goal.returns
returns c =
    let b = c in
    let p = b.requires in
    let e = b.bit_count-total.ensures in
    let u = b.read_cells in
    let v = c.pack_parts in record { bytes_after = packed_is p.0 p.1 e u.auto.bits u.ensures.bits_after v.ensures.bytes_after; candidate_left = record { input = bits_left p.0 p.1 e u.auto.bits u.ensures.bits_after _ v.ensures.bits_after; levels = u.ensures.levels_taken } }
