-- `take_parts` meets its contract. Assumes nothing.
use mathlib.Core.Path.{◌≡◌}
use lib.ListN.{length, drop}
use lib.Seq.{sets}
use Rattle.frameparts.specs.Streams.{shares_in, sums, lent_of, frames_in}
use Rattle.frameparts.proofs.Loops.{Gone}
use Rattle.frameparts.proofs.parts.take_parts.Given as goal

abbrev pub invariant-loop-share : goal.invariant-loop-share
invariant-loop-share l = Gone l.numbers (length l.parts) l.froma l.fromb l.to l.share-iterator.rest.now l.share-iterator.size
    × (sets l.streams l.to (lent_of (frames_in (shares_in l.share-iterator.rest.now) (drop l.froma l.parts) (drop l.fromb l.parts)))
    ≡ lent_of (frames_in (shares_in l.numbers) l.parts (drop (sums (shares_in l.numbers)).a l.parts)))
    × (length l.streams ≡ length l.initial.streams)
