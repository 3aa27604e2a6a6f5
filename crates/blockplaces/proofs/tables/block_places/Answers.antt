-- `tables::block_places` meets its contract. Assumes nothing.
use native.Mathlib.Omega.{arith}
use borrow.Author.Rules.{rules}
use Rattle.blockplaces.specs.Clauses.{level_at}
use Rattle.blockplaces.proofs.Orders.{tabled_start, tabled_turn, next_room, level_places, block_ordered, block_over_lem}
use Rattle.blockplaces.proofs.tables.block_places.Goals as goal

pub loop-i-init : goal.loop-i-init
loop-i-init c = tabled_start _ _ _

pub slice_bounds-level_places-end : goal.slice_bounds-level_places-end
slice_bounds-level_places-end c = omega (arith, next_room c.requires c.level_bits-n.ensures c.sharing-step.ensures c.loop-i.invariant c.loop-i-test.true)

pub level_places-requires : goal.level_places-requires
unfolding level_at
level_places-requires c = level_places c.requires c.level_bits-n.ensures c.sharing-step.ensures c.loop-i.invariant c.loop-i-test.true

pub loop-i-preserved : goal.loop-i-preserved
unfolding level_at
loop-i-preserved c = tabled_turn c.loop-i.invariant (next_room c.requires c.level_bits-n.ensures c.sharing-step.ensures c.loop-i.invariant c.loop-i-test.true) c.level_places.new.out c.level_places.auto.out c.level_places.ensures.level_order c.level_places.ensures.out_after

pub returns : goal.returns
returns c = record { block_order = block_ordered c.requires c.level_bits-n.ensures c.sharing-step.ensures c.loop-i.invariant (search rules); out_after = block_over_lem c.requires c.level_bits-n.ensures c.sharing-step.ensures c.loop-i.invariant (search rules) (search rules) }
