-- `cell_byte` meets its contract. Assumes nothing.
use Prim.Native.Nat.{◌+◌, ◌*◌}
use mathlib.Core.Path.{ap, ap₂, ◌∙◌}
use native.Mathlib.Omega.{arith}
use mir.Syntax.{w16}
use mir.Val.{to_z, of_z}
use mir.Facts.{to_z-of_z}
use Rattle.cellbytes.specs.CellBytes.{four_bits, cell_byte}
use Rattle.cellbytes.proofs.CellBytes.{four_low}
use Rattle.cellbytes.proofs.cells.cell_byte.Goals as goal

pub overflow_mul-result : goal.overflow_mul-result
overflow_mul-result c = omega (arith, c.low_bits.ensures, four_low (to_z w16 (of_z w16 c.args.re)))

pub overflow_add-result : goal.overflow_add-result
overflow_add-result c =
    let a = c.args in
    omega (arith, c.low_bits.ensures, four_low (to_z w16 (of_z w16 a.re)), c.low_bits-2.ensures, four_low (to_z w16 (of_z w16 a.im)))

pub returns : goal.returns
unfolding cell_byte
returns c =
    let start = c in
    ap₂ (λ a b. 16 * a + b) (c.low_bits.ensures ∙ ap four_bits (to_z-of_z {w = w16} start.ranges.re))
    (c.low_bits-2.ensures ∙ ap four_bits (to_z-of_z {w = w16} start.ranges.im))
