-- `build` meets its contract. Assumes nothing.
use mathlib.Core.Path.{sym, ap, ap₂, ◌∙◌}
use native.Mathlib.Omega.{arith}
use Rattle.multiplex.specs.Build.{build_yield}
use Rattle.multiplex.specs.Frame.{built}
use Rattle.multiplex.proofs.Layouts.{uncounted_low, uncounted_inside, buffers, shares_are}
use Rattle.multiplex.proofs.Refusals.{build_accepted, build_yields}
use Rattle.multiplex.proofs.calls.build.Goals as goal

pub layout-l-requires : goal.layout-l-requires
layout-l-requires c = let A = build_accepted _ _ _ _ (sym c.in_ok-check_build.ensures) in record { s_value = A.settings; description_value = A.numbers }

pub offset_bounds-description-first : goal.offset_bounds-description-first
offset_bounds-description-first c = omega (arith, c.uncounted-first.ensures, uncounted_low c.args.s.msc)

pub slice_bounds-put_frame-count : goal.slice_bounds-put_frame-count
slice_bounds-put_frame-count c = let A = build_accepted _ _ _ _ (sym c.in_ok-check_build.ensures) in uncounted_inside c.args.s c.args.description.now A.settings A.numbers c.uncounted-first.ensures

pub slice_bounds-put_frame-start : goal.slice_bounds-put_frame-start
slice_bounds-put_frame-start c = let A = build_accepted _ _ _ _ (sym c.in_ok-check_build.ensures) in uncounted_inside c.args.s c.args.description.now A.settings A.numbers c.uncounted-first.ensures

pub put_frame-requires : goal.put_frame-requires
put_frame-requires c = let A = build_accepted _ _ _ _ (sym c.in_ok-check_build.ensures) in buffers _ _ c.layout-l.ensures.value A.numbers c.layout-l.ensures.small A.fit c.uncounted-first.ensures A.lent A.bytes

pub returns : goal.returns
returns c =
    let A = build_accepted _ _ _ _ (sym c.in_ok-check_build.ensures) in
    let e = c.layout-l.ensures.value in
    ap (build_yield 0) (c.put_frame.ensures ∙ ap₂ (λ k ss. built k ss c.args.streams.now) e (shares_are c.args.s c.args.description.now c.uncounted-first.ensures)) ∙ sym (build_yields _ _ _ _ A)
