-- `collect` meets its contract. Assumes nothing.
use Rattle.patterns.specs.Clauses.{pattern_of}
use Rattle.decoder.proofs.Collecting.{Columns}
use Rattle.decoder.proofs.segment.collect.Given as goal

abbrev pub invariant-loop-i : goal.invariant-loop-i
invariant-loop-i l = Columns (pattern_of l.fn.columns.pattern) l.coded l.at-2 l.initial.out l.out l.at l.i
