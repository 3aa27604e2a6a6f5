-- `code::check_code` meets its contract. Assumes nothing.
use mathlib.Core.Path.{refl, ap}
use mathlib.Core.Bool.{not}
use Rattle.callrefusals.proofs.Chains.{then_fits}
use Rattle.codecall.proofs.CodeCalls.{code_packed, code_eleven, code_twelve, code_none}
use Rattle.codecall.proofs.code.check_code.Goals as goal

pub spares_zero-requires : goal.spares_zero-requires
spares_zero-requires c = code_packed c.args.state _ _ _ _ _ _ _ _ c.in_ok-check_buffers.ensures refl

pub returns-then-not-spares_zero : goal.returns-then-not-spares_zero
returns-then-not-spares_zero c =
    code_eleven _ _ _ _ _ _ _ _ _ c.in_ok-check_buffers.ensures refl _ c.spares_zero.ensures (ap not c.if-not-spares_zero.true)

pub in_order-requires : goal.in_order-requires
in_order-requires c = then_fits _ _ _ _ _ c.in_ok-check_buffers.ensures refl

pub returns-then-not-in_order : goal.returns-then-not-in_order
returns-then-not-in_order c =
    code_twelve _ _ _ _ _ _ _ _ _ c.in_ok-check_buffers.ensures refl _ c.spares_zero.ensures _ (ap not c.if-not-spares_zero.false)
    c.in_order.ensures (ap not c.if-not-in_order.true)

pub returns : goal.returns
returns c =
    code_none _ _ _ _ _ _ _ _ _ c.in_ok-check_buffers.ensures refl _ c.spares_zero.ensures _ (ap not c.if-not-spares_zero.false)
    c.in_order.ensures (ap not c.if-not-in_order.false)
