-- `registers_of` meets its contract. Assumes nothing.
use mathlib.Core.Path.{◌≡◌, refl}
use native.Mathlib.Omega.{arith}
use lib.ListN.{length}
use Rattle.lists.proofs.Tables.{filled_end}
use Rattle.encoder.proofs.segment.registers_of.Goals as goal

pub returns : goal.returns
returns c =
    let l = c.loop-k in
    let d = c.args.registers.now in
    let e : l.k ≡ length d = omega (arith, l.invariant.1, l.invariant.0.long) in
    filled_end 0 _ d l.registers (length d) refl (rw e at l.invariant.0)
