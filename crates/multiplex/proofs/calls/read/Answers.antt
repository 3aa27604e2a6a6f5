-- `read` meets its contract. Assumes nothing.
use mathlib.Core.Path.{sym, ap, ap₂, ◌∙◌}
use native.Mathlib.Omega.{arith}
use Rattle.multiplex.specs.Read.{read_yield}
use Rattle.multiplex.specs.Frame.{split_in, handed}
use Rattle.multiplex.proofs.Layouts.{uncounted_low, uncounted_inside, buffers, shares_are}
use Rattle.multiplex.proofs.Refusals.{read-accepted, read-yields}
use Rattle.multiplex.proofs.calls.read.Goals as goal

pub layout-l-requires : goal.layout-l-requires
layout-l-requires c = let A = read-accepted _ _ _ _ (sym c.in_ok-check_read.ensures) in record { s_value = A.settings; description_value = A.numbers }

pub offset_bounds-description-first : goal.offset_bounds-description-first
offset_bounds-description-first c = omega (arith, c.uncounted-first.ensures, uncounted_low c.args.s.msc)

pub slice_bounds-take_frame-count : goal.slice_bounds-take_frame-count
slice_bounds-take_frame-count c = let A = read-accepted _ _ _ _ (sym c.in_ok-check_read.ensures) in uncounted_inside c.args.s c.args.description.now A.settings A.numbers c.uncounted-first.ensures

pub slice_bounds-take_frame-start : goal.slice_bounds-take_frame-start
slice_bounds-take_frame-start c = let A = read-accepted _ _ _ _ (sym c.in_ok-check_read.ensures) in uncounted_inside c.args.s c.args.description.now A.settings A.numbers c.uncounted-first.ensures

pub take_frame-requires : goal.take_frame-requires
take_frame-requires c = let A = read-accepted _ _ _ _ (sym c.in_ok-check_read.ensures) in buffers _ _ c.layout-l.ensures.value A.numbers c.layout-l.ensures.small A.fit c.uncounted-first.ensures A.lent A.bytes

pub returns : goal.returns
returns c =
    let A = read-accepted _ _ _ _ (sym c.in_ok-check_read.ensures) in
    let e = c.layout-l.ensures.value in
    ap (read_yield 0) (c.take_frame.ensures ∙ ap₂ (λ k ss. handed (split_in k ss c.args.frame.now)) e (shares_are c.args.s c.args.description.now c.uncounted-first.ensures)) ∙ sym (read-yields _ _ _ _ A)
