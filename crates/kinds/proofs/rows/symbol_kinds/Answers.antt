-- `kinds::symbol_kinds` meets its contract. Assumes nothing.
use native.Mathlib.Omega.{arith}
use Rattle.kinds.proofs.Bands.{pairing_low, band_end}
use Rattle.kinds.proofs.Symbols.{symbol_copied, length_painting}
use Rattle.kinds.proofs.rows.symbol_kinds.Goals as goal

pub overflow_add-end : goal.overflow_add-end
overflow_add-end c =
    let s = c in
    omega (arith, c.lower-first.ensures, s.requires.long, band_end _ _ (pairing_low s.args.p.mode s.args.p.occupancy))

pub slice_bounds-copy_from_slice-end : goal.slice_bounds-copy_from_slice-end
slice_bounds-copy_from_slice-end c =
    let l = c in
    let p = l in
    let s = p in
    let long = length_painting _ _ _ _ _ p.data_row-row.ensures p.paint_symbol.ensures in
    let end = band_end _ _ (pairing_low s.args.p.mode s.args.p.occupancy) in
    omega (arith, l.lower-first.ensures, s.requires.long, end, long)

pub returns : goal.returns
returns c =
    let b = c in
    let l = b in
    let p = l in
    let d = p in
    let s = d in
    symbol_copied _ _ _ _ _ _ _ _ _ _ (pairing_low s.args.p.mode s.args.p.occupancy) d.data_kind.ensures d.data_row-row.ensures p.paint_symbol.ensures l.lower-first.ensures s.requires.long b.copy_from_slice.ensures.after
