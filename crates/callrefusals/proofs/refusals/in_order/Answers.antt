-- `refusal::in_order` meets its contract. Assumes nothing.
use native.Mathlib.Omega.{arith}
use Rattle.channels.proofs.Schemes.{scheme-accepted}
use Rattle.callrefusals.proofs.Chains.{order_position, order_count, order_cells}
use Rattle.callrefusals.proofs.refusals.in_order.Goals as goal

pub returns-then-depth-state : goal.returns-then-depth-state
returns-then-depth-state c = order_position _ _ _ _ c.depth-depth.ensures c.if-depth-state.true

pub returns-then-depth-state-2 : goal.returns-then-depth-state-2
returns-then-depth-state-2 c = order_count _ _ _ _ c.depth-depth.ensures c.if-depth-state-2.true

pub msc_constellation-requires : goal.msc_constellation-requires
msc_constellation-requires c = omega (arith, (scheme-accepted _ c.requires.scheme).settings.ranges.part_a.msc_low)

pub returns : goal.returns
returns c =
    let b = c in
    order_cells _ _ _ _ b.depth-depth.ensures b.requires.long c.if-depth-state.false c.if-depth-state-2.false
    _ _ c.msc_constellation.ensures c.bytes_pass.ensures
