-- `read::read_at` meets its contract. Assumes nothing.
use native.Mathlib.Omega.{arith}
use Rattle.blockplaces.specs.Clauses.{level_at}
use Rattle.multilevel.proofs.Partition.{sums-a, sums-b}
use Rattle.multilevel.proofs.Totals.{sums-front}
use Rattle.multilevel.proofs.LevelsRead.{whole, ends, reads_level, read_at_lem}
use Rattle.multilevel.proofs.read.read_at.Goals as goal

pub overflow_add-from : goal.overflow_add-from
overflow_add-from c =
    let W = whole c.requires c.bits_before-at.ensures c.bits_before.ensures c.bits_before-2.ensures in
    let E = ends c.requires c.bits_before-at.ensures c.bits_before.ensures c.bits_before-2.ensures in
    omega (arith, E.1, W.3)

pub read_level-requires : goal.read_level-requires
unfolding level_at
read_level-requires c = reads_level c.requires c.bits_before-at.ensures c.bits_before.ensures c.bits_before-2.ensures c.digit.ensures

pub returns : goal.returns
unfolding level_at
returns c = record { read_at_lem = read_at_lem c.requires c.bits_before-at.ensures c.bits_before.ensures c.bits_before-2.ensures c.read_level.ensures.bits_after; coded_after = c.read_level.ensures.coded_after }

pub bits_before-at-requires : goal.bits_before-at-requires
bits_before-at-requires c = sums-a c.requires.level

pub bits_before-requires : goal.bits_before-requires
bits_before-requires c = sums-front c.requires.fits

pub bits_before-requires-2 : goal.bits_before-requires-2
bits_before-requires-2 c = sums-b c.requires.level
