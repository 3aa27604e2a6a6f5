use Prim.Native.Nat.{◌+◌, ◌*◌}
use mathlib.Core.Path.{◌≡◌, ◌∙◌}
use native.Mathlib.Nat.{zero-add}
use native.Mathlib.Omega.{arith}
use lib.ListN.{length, get_or}
use lib.IntN.{pos}
use borrow.Author.Rules.{sfits_of}
use mir.Syntax.{w16}
use mir.Val.{to_z, of_z}
use mir.Facts.{to_z-of_z}
use Rattle.deskcells.specs.Cells.{bytes_cells}
use Rattle.console.proofs.Copied.{copied_more, copied_all}
use Rattle.deskcells.proofs.Turns.{cell_there, bytes-cells_long}
use Rattle.deskcells.proofs.numbers.take_cells.Goals as goal

pub loop-i-preserved : goal.loop-i-preserved
loop-i-preserved c =
    let l = c.loop-i in
    let x = c.args.bytes.now in
    let h = c.loop-i-test.true in
    let r = c.from_le_bytes in
    let b = c.type_inv.bytes in
    let v : to_z w16 (of_z w16 r.result) ≡ get_or (bytes_cells x) l.i (pos 0) =
    to_z-of_z {w = w16} (sfits_of {w = w16} r.type_inv) ∙ cell_there x l.i r.result h ((b (2 * l.i)).fits) ((b (2 * l.i + 1)).fits) r.ensures in
    let m = copied_more (pos 0) c.args.cells.now (bytes_cells x) l.cells 0 l.i _ (omega (arith, h, bytes-cells_long x)) v l.invariant in
    rw zero-add at m

pub returns : goal.returns
returns c =
    let l = c.loop-i in
    let x = c.args.bytes.now in
    let e : l.i ≡ length (bytes_cells x) = omega (arith, bytes-cells_long x) in
    copied_all (pos 0) _ (bytes_cells x) _ _ l.i e l.invariant
