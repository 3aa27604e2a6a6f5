-- `kinds::paint_symbol` meets its contract. Assumes nothing.
use Rattle.kinds.proofs.Symbols.{symbol_painted}
use Rattle.kinds.proofs.rows.paint_symbol.Goals as goal

pub returns : goal.returns
returns c =
    let e = c in
    let d = e in
    let b = d in
    let a = b in
    let f = a in
    symbol_painted _ _ _ _ _ _ _ _ f.requires f.paint.ensures a.paint_gain.ensures b.paint_time.ensures d.paint-2.ensures e.paint-3.ensures
