-- `read::read_on` meets its contract. Assumes nothing.
use mathlib.Core.Path.{refl}
use Rattle.callrefusals.proofs.Chains.{then_fits}
use Rattle.readoncall.proofs.OnParts.{accepted-lent, accepted_seven, accepted_is}
use Rattle.readoncall.proofs.read.read_on.Goals as goal

pub check_order-requires : goal.check_order-requires
check_order-requires c = then_fits _ _ _ _ _ c.in_ok-check_buffers.ensures refl

pub read_kept-blocks-requires : goal.read_kept-blocks-requires
read_kept-blocks-requires c = accepted-lent _ _ _ _ _ _ _ _ _ c.in_ok-check_buffers.ensures c.in_ok-check_order.ensures

pub mark_lost-requires : goal.mark_lost-requires
mark_lost-requires c = accepted_seven _ _ _ _ _ _ _ _ _ c.in_ok-check_buffers.ensures c.in_ok-check_order.ensures

pub returns : goal.returns
returns c =
    accepted_is _ _ _ _ _ _ _ _ _ c.in_ok-check_buffers.ensures c.in_ok-check_order.ensures _ _ _ _ _ _
    c.read_kept-blocks.ensures c.mark_lost.ensures
