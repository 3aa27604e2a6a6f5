use mathlib.Core.Path.{ap}
use native.Mathlib.Omega.{arith}
use lib.ListN.{get_or}
use Rattle.line.proofs.Text.{four}
use Rattle.line.proofs.write.group.Goals as goal

pub returns : goal.returns
returns c =
    let high = ap (λ l. get_or l 0 0) c.to_be_bytes.ensures in
    let low = ap (λ l. get_or l 1 0) c.to_be_bytes.ensures in
    four c.args.n _ _ _ _ _ _ c.glyph.ensures c.glyph-2.ensures c.glyph-3.ensures c.glyph-4.ensures (omega (arith, high)) (omega (arith, low)) c.ranges.n.fits
