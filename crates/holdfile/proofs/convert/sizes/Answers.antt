-- `convert::sizes` meets its contract. Assumes nothing.
use mathlib.Core.Path.{sym}
use native.Mathlib.Omega.{arith}
use Rattle.settings.proofs.Bounds.{accepted_of}
use Rattle.holdlines.specs.declared.Form.TheVariants.{Old, New}
use Rattle.holdlines.proofs.LineLengths.{file_few}
use Rattle.holdfile.proofs.Turning.{sizes_found}
use Rattle.holdfile.proofs.convert.sizes.Goals as goal

pub overflow_cast-result : goal.overflow_cast-result
overflow_cast-result c =
    let a = accepted_of _ (sym c.in_ok-check.ensures) in
    omega (arith, c.file_bytes.ensures, file_few Old c.args.s a.ranges.mux_most)

pub overflow_cast-result-2 : goal.overflow_cast-result-2
overflow_cast-result-2 c =
    let a = accepted_of _ (sym c.in_ok-check.ensures) in
    omega (arith, c.file_bytes-2.ensures, file_few New c.args.s a.ranges.mux_most)

pub returns : goal.returns
returns c =
    sizes_found _ _ _ (sym c.in_ok-check.ensures) c.file_bytes.ensures c.file_bytes-2.ensures
