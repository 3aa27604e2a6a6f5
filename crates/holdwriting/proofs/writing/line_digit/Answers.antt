-- `line_digit` meets its contract. Assumes nothing.
use native.Mathlib.Omega.{arith}
use Rattle.holdwriting.proofs.Putting.{old_cell, new_cell, old_digit, new-digit}
use Rattle.holdwriting.proofs.writing.line_digit.Goals as goal

pub bounds-cells-k : goal.bounds-cells-k
bounds-cells-k c = let s = c in old_cell s.args.form s.args.cells.now s.args.k s.requires c.in-Old.is

pub bounds-cells-k-in-New : goal.bounds-cells-k-in-New
bounds-cells-k-in-New c = let s = c in new_cell s.args.form s.args.cells.now s.args.k s.requires c.in-New.is

pub wide_digit-requires : goal.wide_digit-requires
wide_digit-requires c = (c.half.ensures.1, omega arith)

pub digit-requires : goal.digit-requires
digit-requires c = c.half-in-New.ensures.1

pub returns-in-Old : goal.returns-in-Old
returns-in-Old c =
    let s = c in
    old_digit s.args.form s.args.cells.now s.args.k s.requires _ _ c.in-Old.is c.half.ensures.0 c.wide_digit.ensures

pub returns-in-New : goal.returns-in-New
returns-in-New c =
    let s = c in
    new-digit s.args.form s.args.cells.now s.args.k s.requires _ _ c.in-New.is c.half-in-New.ensures.0 c.half-in-New.ensures.1 c.digit.ensures
