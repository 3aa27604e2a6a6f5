use Prim.Native.Nat.{◌*◌}
use mathlib.Core.Path.{◌≡◌}
use native.Mathlib.Omega.{arith}
use lib.ListN.{length}
use Rattle.deskcells.specs.Cells.{cell_bytes}
use Rattle.console.proofs.Copied.{copied_all}
use Rattle.deskcells.proofs.Turns.{pair_stored, cell_bytes_long}
use Rattle.deskcells.proofs.numbers.put_cells.Goals as goal

pub loop-i-preserved : goal.loop-i-preserved
loop-i-preserved c =
    let l = c.loop-i in
    pair_stored c.args.cells.now l.i c.args.at c.args.out.now l.out _ c.loop-i-test.true c.to_le_bytes-arg-1.given c.to_le_bytes.ensures l.invariant

pub returns : goal.returns
returns c =
    let l = c.loop-i in
    let x = c.args.cells.now in
    let e : 2 * l.i ≡ length (cell_bytes x) = omega (arith, cell_bytes_long x) in
    copied_all 0 _ (cell_bytes x) _ _ (2 * l.i) e l.invariant
