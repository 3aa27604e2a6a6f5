-- `decide_bits` meets its contract. Assumes nothing.
use native.Mathlib.Omega.{arith}
use Rattle.measured.proofs.Accepts.{bit_fits, bits_done}
use Rattle.measured.proofs.calls.decide_bits.Goals as goal

pub bit_at-requires : goal.bit_at-requires
bit_at-requires c =
    let a = c in
    bit_fits _ _ _ _ _ _ _ a.requires a.axis_bits-each.ensures (omega (arith, c.loop-j-test.true, c.loop-j.invariant.0.long))

pub returns : goal.returns
returns c =
    let l = c in
    let a = l in
    bits_done _ _ _ _ _ _ _ _ a.requires a.axis_bits-each.ensures l.loop-j.invariant.1 (omega (arith, l.loop-j.invariant.0.long, c.loop-j-test.false)) l.loop-j.invariant.0
