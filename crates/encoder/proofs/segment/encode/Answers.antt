-- `encode` meets its contract. Assumes nothing.
use mathlib.Core.Path.{◌≡◌}
use native.Mathlib.Omega.{arith}
use borrow.Author.Rules.{rules}
use lib.ListN.{length, length-take}
use Rattle.patterns.specs.Clauses.{pattern_of}
use Rattle.encoder.proofs.segment.encode.Goals as goal

pub encode_segment-requires : goal.encode_segment-requires
unfolding pattern_of
encode_segment-requires c =
    let l : length c.args.pattern.columns ≡ 8 = search rules in
    rw c.columns.ensures (c.requires.1, rw length-take (omega (arith, l)))
