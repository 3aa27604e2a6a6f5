-- `refusal::spares_zero` meets its contract. Assumes nothing.
use native.Mathlib.Omega.{arith}
use Rattle.settings.proofs.Bounds.{accepted_of}
use Rattle.settings.proofs.Buffers.{few}
use Rattle.superframe.specs.Code.{spares_zero}
use Rattle.callrefusals.proofs.refusals.spares_zero.Goals as goal

pub spare_zero-requires : goal.spare_zero-requires
spare_zero-requires c =
    let p = c.requires in
    omega (arith, p.sdclong, (few _ (accepted_of _ p.settings)).sdc_bytes_few)

pub returns-then-not-spare_zero : goal.returns-then-not-spare_zero
unfolding spares_zero
returns-then-not-spare_zero c = rw (← c.sdc_bits.ensures, ← c.spare_zero.ensures, c.if-not-spare_zero.true)

pub frame_bytes-requires : goal.frame_bytes-requires
frame_bytes-requires c = accepted_of _ c.requires.settings

pub frames_spare-requires : goal.frames_spare-requires
frames_spare-requires c =
    let p = c.requires in
    (rw c.frame_bytes.ensures p.msclong, omega (arith, c.frame_bytes.ensures, (few _ (accepted_of _ p.settings)).frame_few))

pub returns : goal.returns
unfolding spares_zero
returns c =
    let b = c in
    rw (← b.sdc_bits.ensures, ← b.spare_zero.ensures, c.if-not-spare_zero.false, ← c.frame_bits.ensures, ← c.frame_bytes.ensures)
    c.frames_spare.ensures

pub frame_bits-requires : goal.frame_bits-requires
frame_bits-requires c = accepted_of _ c.requires.settings
