-- `search` meets its contract. Assumes nothing.
use Prim.Native.Nat.{ℕ}
use lib.ListN.{replicate, length-replicate}
use Rattle.nearest.specs.Clauses.{Long}
use native.Mathlib.Omega.{arith}
use Rattle.nearest.proofs.Searching.{searches, words_room, follows, found}
use Rattle.nearest.proofs.search.search.Goals as goal

buffer : Long 1120 (replicate 1120 0)
buffer = record { long = length-replicate {A = ℕ} 1120 0 }

pub choose_from-count-requires : goal.choose_from-count-requires
choose_from-count-requires c =
    searches c.requires buffer

pub slice_bounds-follow-end : goal.slice_bounds-follow-end
slice_bounds-follow-end c =
    let a = c in
    omega (arith, words_room a.requires buffer a.args.received.now c.choose_from-count.ensures)

pub follow-requires : goal.follow-requires
follow-requires c =
    let v = c in
    let a = v in
    follows a.requires buffer a.args.received.now c.choose_from-count.ensures

pub returns : goal.returns
returns c =
    let v = c in
    let a = v in
    found a.requires buffer a.args.received.now c.choose_from-count.ensures c.follow.ensures
