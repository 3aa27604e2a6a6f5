-- `check_build` meets its contract. Assumes nothing.
use mathlib.Core.Bool.{not}
use mathlib.Core.Path.{sym, ◌∙◌, ap}
use native.Mathlib.Omega.{arith}
use Rattle.settings.proofs.Chain.{hold, pass}
use Rattle.multiplex.proofs.Layouts.{wanted_streams, wanted_frame, wanted_fit}
use Rattle.multiplex.proofs.Refusals.{build_numbers, build_streams, build_frame_lem, build_test}
use Rattle.multiplex.proofs.calls.check_build.Goals as goal

pub returns-then-not-described : goal.returns-then-not-described
returns-then-not-described c = build_numbers _ _ _ _ (sym c.in_ok-check.ensures) c.described.ensures (ap not c.if-not-described.true)

pub layout-l-requires : goal.layout-l-requires
layout-l-requires c = record { s_value = sym c.in_ok-check.ensures; description_value = sym c.described.ensures ∙ c.if-not-described.false }

pub overflow_add-l : goal.overflow_add-l
overflow_add-l c = omega (arith, c.layout-l.ensures.small.a, c.layout-l.ensures.small.b)

pub overflow_add-l-2 : goal.overflow_add-l-2
overflow_add-l-2 c = omega (arith, c.layout-l.ensures.small.a, c.layout-l.ensures.small.b, c.layout-l.ensures.small.head)

pub returns-then-streams-l : goal.returns-then-streams-l
returns-then-streams-l c =
    let ok = sym c.in_ok-check.ensures in
    let n = sym c.described.ensures ∙ c.if-not-described.false in
    let e = c.layout-l.ensures.value in
    build_streams _ _ _ _ ok n (λ z. c.if-streams-l.true (z ∙ wanted_streams _ _ e))

pub overflow_add-l-3 : goal.overflow_add-l-3
overflow_add-l-3 c = omega (arith, c.layout-l.ensures.small.frame)

pub bytes_for-requires : goal.bytes_for-requires
bytes_for-requires c = omega (arith, c.layout-l.ensures.small.frame)

pub returns-then-frame-bytes_for : goal.returns-then-frame-bytes_for
returns-then-frame-bytes_for c =
    let ok = sym c.in_ok-check.ensures in
    let n = sym c.described.ensures ∙ c.if-not-described.false in
    let e = c.layout-l.ensures.value in
    let m = c.if-streams-l.false ∙ sym (wanted_streams _ _ e) in
    build_frame_lem _ _ _ _ ok n m (λ z. c.if-frame-bytes_for.true (z ∙ wanted_frame _ _ e ∙ sym c.bytes_for.ensures))

pub returns-then-not-fits : goal.returns-then-not-fits
returns-then-not-fits c =
    let ok = sym c.in_ok-check.ensures in
    let n = sym c.described.ensures ∙ c.if-not-described.false in
    let e = c.layout-l.ensures.value in
    let m = c.if-streams-l.false ∙ sym (wanted_streams _ _ e) in
    let f = c.if-frame-bytes_for.false ∙ c.bytes_for.ensures ∙ sym (wanted_frame _ _ e) in
    hold _ 19 0 (ap not c.if-not-fits.true) ∙ build_test _ _ _ _ ok n m f (c.fits.ensures ∙ wanted_fit _ _ e)

pub returns : goal.returns
returns c =
    let ok = sym c.in_ok-check.ensures in
    let n = sym c.described.ensures ∙ c.if-not-described.false in
    let e = c.layout-l.ensures.value in
    let m = c.if-streams-l.false ∙ sym (wanted_streams _ _ e) in
    let f = c.if-frame-bytes_for.false ∙ c.bytes_for.ensures ∙ sym (wanted_frame _ _ e) in
    pass _ 19 0 (ap not c.if-not-fits.false) ∙ build_test _ _ _ _ ok n m f (c.fits.ensures ∙ wanted_fit _ _ e)
