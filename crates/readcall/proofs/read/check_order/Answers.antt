-- `read::check_order` meets its contract. Assumes nothing.
use mathlib.Core.Path.{refl, ap}
use mathlib.Core.Bool.{not}
use Rattle.callrefusals.proofs.Chains.{then_fits}
use Rattle.readcall.proofs.ReadParts.{order_twelve, order_none}
use Rattle.readcall.proofs.read.check_order.Goals as goal

pub in_order-requires : goal.in_order-requires
in_order-requires c = then_fits _ _ _ _ _ c.in_ok-check_buffers.ensures refl

pub returns-then-not-in_order : goal.returns-then-not-in_order
returns-then-not-in_order c =
    order_twelve _ _ _ _ _ _ _ _ _ c.in_ok-check_buffers.ensures refl _ c.in_order.ensures (ap not c.if-not-in_order.true)

pub returns : goal.returns
returns c =
    order_none _ _ _ _ _ _ _ _ _ c.in_ok-check_buffers.ensures refl _ c.in_order.ensures (ap not c.if-not-in_order.false)
