-- `put_line` meets its contract. Assumes nothing.
use Rattle.std.proofs.Common.{◌∙◌, arith}
use Rattle.lists.proofs.Tables.{filled-start, filled_turn}
use Rattle.holdwriting.proofs.Putting.{length-line, byte_digit, line_filled}
use Rattle.holdwriting.proofs.writing.put_line.Goals as goal

pub loop-k-init : goal.loop-k-init
loop-k-init c = filled-start _ _ _

pub loop-k-preserved : goal.loop-k-preserved
loop-k-preserved c =
    let l = c.loop-k in
    let long = length-line c.args.form c.args.cells.now in
    filled_turn _ _ _ _ l.k _ (omega (arith, c.requires.long)) (c.line_digit.ensures ∙ byte_digit c.args.form c.args.cells.now l.k (omega (arith, c.requires.long, long))) l.invariant

pub returns : goal.returns
returns c =
    let l = c.loop-k in
    let long = length-line c.args.form c.args.cells.now in
    line_filled c.args.form c.args.cells.now c.args.line.now l.line l.k _ (omega (arith, c.requires.long, long)) (omega (arith, c.requires.long, long)) (omega (arith, c.requires.long, long)) l.invariant
