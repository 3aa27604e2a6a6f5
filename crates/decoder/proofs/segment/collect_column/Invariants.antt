-- `collect_column` meets its contract. Assumes nothing.
use Prim.Native.Nat.{◌-◌}
use lib.ListN.{length}
use Rattle.patterns.specs.Clauses.{pattern_of}
use Rattle.component.specs.Decoding.{coded_length}
use Rattle.decoder.proofs.Collecting.{Collecting}
use Rattle.decoder.proofs.segment.collect_column.Given as goal

abbrev pub invariant-loop-j : goal.invariant-loop-j
invariant-loop-j l = Collecting (pattern_of l.fn.columns.pattern) l.coded (l.at-2 - coded_length (pattern_of l.fn.columns.pattern) 0 l.i) l.initial.out l.out l.i l.at l.j

abbrev pub decreases-loop-j : goal.decreases-loop-j
decreases-loop-j l = length l.initial.out - l.j
