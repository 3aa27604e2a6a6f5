-- `check_store` meets its contract. Assumes nothing.
use Rattle.std.proofs.Common.{◌≡◌, not, refl, ap, rules, arith}
use Rattle.refusal.specs.Numbers.{number}
use Rattle.refusal.proofs.Positive.{number_positive}
use Rattle.holdcalls.specs.Store.{store_refusal}
use Rattle.holdcalls.proofs.StoreCalls.{early_fits, store_early, store_ten, store_twelve, store_none}
use Rattle.holdcalls.proofs.store.check_store.Goals as goal

pub returns-in_err-check_reset : goal.returns-in_err-check_reset
returns-in_err-check_reset c =
    let r = c.in_err-check_reset.field-0.0 in
    let h : number r ≡ store_refusal c.args.form c.args.state c.args.memory.now c.args.file.now =
    store_early _ c.args.state _ _ _ c.in_err-check_reset.ensures (λ e. omega (arith, e, number_positive r)) in
    search rules

pub returns-then-file-file_bytes : goal.returns-then-file-file_bytes
returns-then-file-file_bytes c =
    store_ten _ c.args.state _ _ _ c.in_ok-check_reset.ensures refl _ c.file_bytes.ensures c.if-file-file_bytes.true

pub in_order-requires : goal.in_order-requires
in_order-requires c = early_fits _ _ _ c.in_ok-check_reset.ensures refl

pub returns-then-not-in_order : goal.returns-then-not-in_order
returns-then-not-in_order c =
    store_twelve _ _ _ _ _ c.in_ok-check_reset.ensures refl _ c.file_bytes.ensures _ c.if-file-file_bytes.false
    c.in_order.ensures (ap not c.if-not-in_order.true)

pub returns : goal.returns
returns c =
    store_none _ _ _ _ _ c.in_ok-check_reset.ensures refl _ c.file_bytes.ensures _ c.if-file-file_bytes.false
    c.in_order.ensures (ap not c.if-not-in_order.false)
