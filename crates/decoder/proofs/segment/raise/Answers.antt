-- `raise` meets its contract. Assumes nothing.
use native.Mathlib.Omega.{arith}
use borrow.Author.Rules.{rules}
use lib.ListN.{length}
use Rattle.patterns.specs.Clauses.{pattern_of}
use Rattle.component.proofs.Lengths.{coded_low}
use Rattle.decoder.proofs.Collecting.{collected_bits}
use Rattle.decoder.proofs.Division.{multiplied_bits}
use Rattle.decoder.proofs.segment.raise.Goals as goal

pub count_columns-stride-requires : goal.count_columns-stride-requires
count_columns-stride-requires c =
    let k = c.requires.0 in
    rw c.columns-pattern.ensures (k.sound, omega (arith, coded_low k.sound (length (pattern_of c.args.columns.pattern)) (omega arith), k.few))

pub collect-requires : goal.collect-requires
collect-requires c =
    rw (rw c.columns-pattern.ensures at c.count_columns-stride.ensures) c.requires.0

pub multiply-requires : goal.multiply-requires
multiply-requires c =
    let e = c.collect.ensures in
    (collected_bits c.requires.0.sound e.1, search rules, search rules)

pub multiply-requires-2 : goal.multiply-requires-2
multiply-requires-2 c =
    let e = c.collect.ensures in
    (multiplied_bits (collected_bits c.requires.0.sound e.1) c.multiply.ensures, search rules, search rules)
