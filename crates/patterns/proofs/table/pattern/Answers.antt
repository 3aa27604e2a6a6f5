-- `pattern` meets its contract. Assumes nothing.
use borrow.Author.Rules.{rules}
use lib.ListN.{replicate}
use Rattle.lists.proofs.Tables.{filled_turn}
use Rattle.patterns.specs.Patterns.{column}
use Rattle.patterns.proofs.Loaded.{column_from_lem, filled-pattern}
use Rattle.patterns.proofs.table.pattern.Goals as goal

pub loop-i-preserved : goal.loop-i-preserved
loop-i-preserved c =
    let l = c in
    let s = l in (
      filled_turn 0 (column s.args.kept.now s.args.rate) (replicate 8 0) l.loop-i.columns l.loop-i.i c.column.result (search rules)
          (column_from_lem s.args.kept.now s.args.rate l.loop-i.i _ _ _ l.loop-i.invariant.1.0 l.loop-i.invariant.1.1.0 c.column.ensures)
          l.loop-i.invariant.0,
      (l.loop-i.invariant.1.0, (l.loop-i.invariant.1.1.0, search rules)),
    )

pub returns : goal.returns
returns c =
    let l = c in
    filled-pattern _ l.loop-i.columns _ l.loop-i.i _ l.loop-i.invariant.0 l.loop-i.invariant.1.0 (search rules) (search rules)
