-- `check_read` meets its contract. Assumes nothing.
use mathlib.Core.Bool.{not}
use mathlib.Core.Path.{sym, ap, ◌∙◌}
use native.Mathlib.Omega.{arith}
use Rattle.settings.proofs.Chain.{hold, pass}
use Rattle.block.specs.Packing.{spare_zero}
use Rattle.multiplex.proofs.Layouts.{fitting, few_bytes, wanted_streams, wanted_frame, wanted_bits, wanted_fit, wanted_zero}
use Rattle.multiplex.proofs.Refusals.{read-numbers, read_frame, read-streams, read_spare, read-fit, read_test}
use Rattle.multiplex.proofs.calls.check_read.Goals as goal

pub returns-then-not-described : goal.returns-then-not-described
returns-then-not-described c = read-numbers _ _ _ _ (sym c.in_ok-check.ensures) c.described.ensures (ap not c.if-not-described.true)

pub layout-l-requires : goal.layout-l-requires
layout-l-requires c = record { s_value = sym c.in_ok-check.ensures; description_value = sym c.described.ensures ∙ c.if-not-described.false }

pub overflow_add-l : goal.overflow_add-l
overflow_add-l c = omega (arith, c.layout-l.ensures.small.frame)

pub bytes_for-requires : goal.bytes_for-requires
bytes_for-requires c = omega (arith, c.layout-l.ensures.small.frame)

pub returns-then-frame-bytes_for : goal.returns-then-frame-bytes_for
returns-then-frame-bytes_for c =
    let ok = sym c.in_ok-check.ensures in
    let n = sym c.described.ensures ∙ c.if-not-described.false in
    let e = c.layout-l.ensures.value in
    read_frame _ _ _ _ ok n (λ z. c.if-frame-bytes_for.true (z ∙ wanted_frame _ _ e ∙ sym c.bytes_for.ensures))

pub overflow_add-l-2 : goal.overflow_add-l-2
overflow_add-l-2 c = omega (arith, c.layout-l.ensures.small.a, c.layout-l.ensures.small.b)

pub overflow_add-l-3 : goal.overflow_add-l-3
overflow_add-l-3 c = omega (arith, c.layout-l.ensures.small.a, c.layout-l.ensures.small.b, c.layout-l.ensures.small.head)

pub returns-then-streams-l : goal.returns-then-streams-l
returns-then-streams-l c =
    let ok = sym c.in_ok-check.ensures in
    let n = sym c.described.ensures ∙ c.if-not-described.false in
    let e = c.layout-l.ensures.value in
    let f = c.if-frame-bytes_for.false ∙ c.bytes_for.ensures ∙ sym (wanted_frame _ _ e) in
    read-streams _ _ _ _ ok n f (λ z. c.if-streams-l.true (z ∙ wanted_streams _ _ e))

pub overflow_add-l-4 : goal.overflow_add-l-4
overflow_add-l-4 c = omega (arith, c.layout-l.ensures.small.frame)

pub spare_zero-requires : goal.spare_zero-requires
spare_zero-requires c = few_bytes c.if-frame-bytes_for.false c.bytes_for.ensures c.layout-l.ensures.small

pub returns-then-not-spare_zero : goal.returns-then-not-spare_zero
returns-then-not-spare_zero c =
    let ok = sym c.in_ok-check.ensures in
    let n = sym c.described.ensures ∙ c.if-not-described.false in
    let e = c.layout-l.ensures.value in
    let f = c.if-frame-bytes_for.false ∙ c.bytes_for.ensures ∙ sym (wanted_frame _ _ e) in
    let m = c.if-streams-l.false ∙ sym (wanted_streams _ _ e) in
    read_spare c.args.s c.args.description.now c.args.frame.now c.args.streams.now ok n f m (c.spare_zero.ensures ∙ ap (λ k. spare_zero k c.args.frame.now) (sym (wanted_bits _ _ e))) (ap not c.if-not-spare_zero.true)

pub returns-then-not-fits : goal.returns-then-not-fits
returns-then-not-fits c =
    let ok = sym c.in_ok-check.ensures in
    let n = sym c.described.ensures ∙ c.if-not-described.false in
    let e = c.layout-l.ensures.value in
    let f = c.if-frame-bytes_for.false ∙ c.bytes_for.ensures ∙ sym (wanted_frame _ _ e) in
    let m = c.if-streams-l.false ∙ sym (wanted_streams _ _ e) in
    let z = sym (c.spare_zero.ensures ∙ ap (λ k. spare_zero k c.args.frame.now) (sym (wanted_bits _ _ e))) ∙ c.if-not-spare_zero.false in
    read-fit c.args.s c.args.description.now c.args.frame.now c.args.streams.now ok n f m z (c.fits.ensures ∙ wanted_fit _ _ e) (ap not c.if-not-fits.true)

pub filling_zero-requires : goal.filling_zero-requires
filling_zero-requires c = fitting _ c.layout-l.ensures.small.frame (sym c.fits.ensures ∙ c.if-not-fits.false)

pub returns-then-not-filling_zero : goal.returns-then-not-filling_zero
returns-then-not-filling_zero c =
    let ok = sym c.in_ok-check.ensures in
    let n = sym c.described.ensures ∙ c.if-not-described.false in
    let e = c.layout-l.ensures.value in
    let f = c.if-frame-bytes_for.false ∙ c.bytes_for.ensures ∙ sym (wanted_frame _ _ e) in
    let m = c.if-streams-l.false ∙ sym (wanted_streams _ _ e) in
    let z = sym (c.spare_zero.ensures ∙ ap (λ k. spare_zero k c.args.frame.now) (sym (wanted_bits _ _ e))) ∙ c.if-not-spare_zero.false in
    let t = sym (c.fits.ensures ∙ wanted_fit _ _ e) ∙ c.if-not-fits.false in
    hold _ 20 0 (ap not c.if-not-filling_zero.true) ∙ read_test c.args.s c.args.description.now c.args.frame.now c.args.streams.now ok n f m z t (c.filling_zero.ensures ∙ wanted_zero _ _ e _)

pub returns : goal.returns
returns c =
    let ok = sym c.in_ok-check.ensures in
    let n = sym c.described.ensures ∙ c.if-not-described.false in
    let e = c.layout-l.ensures.value in
    let f = c.if-frame-bytes_for.false ∙ c.bytes_for.ensures ∙ sym (wanted_frame _ _ e) in
    let m = c.if-streams-l.false ∙ sym (wanted_streams _ _ e) in
    let z = sym (c.spare_zero.ensures ∙ ap (λ k. spare_zero k c.args.frame.now) (sym (wanted_bits _ _ e))) ∙ c.if-not-spare_zero.false in
    let t = sym (c.fits.ensures ∙ wanted_fit _ _ e) ∙ c.if-not-fits.false in
    pass _ 20 0 (ap not c.if-not-filling_zero.false) ∙ read_test c.args.s c.args.description.now c.args.frame.now c.args.streams.now ok n f m z t (c.filling_zero.ensures ∙ wanted_zero _ _ e _)
