-- `lay_parts` meets its contract. Assumes nothing.
use mathlib.Core.Path.{◌≡◌}
use mathlib.Core.List.{◌++◌}
use lib.ListN.{length, drop}
use lib.Seq.{sets}
use Rattle.frameparts.specs.Streams.{shares_in, lent_in, parts_a, parts_b}
use Rattle.frameparts.proofs.Loops.{Gone}
use Rattle.frameparts.proofs.parts.lay_parts.Given as goal

abbrev pub invariant-loop-share : goal.invariant-loop-share
invariant-loop-share l = Gone l.numbers (length l.streams) l.toa l.tob l.from l.share-iterator.rest.now l.share-iterator.size
    × (sets (sets l.parts l.toa (parts_a (lent_in (shares_in l.share-iterator.rest.now) (drop l.from l.streams)))) l.tob (parts_b (lent_in (shares_in l.share-iterator.rest.now) (drop l.from l.streams)))
    ≡ parts_a (lent_in (shares_in l.numbers) l.streams) ++ parts_b (lent_in (shares_in l.numbers) l.streams))
    × (length l.parts ≡ length l.initial.parts)
