-- `code_axes` meets its contract. Assumes nothing.
use mathlib.Core.Path.{refl}
use native.Mathlib.Omega.{arith}
use Rattle.lists.proofs.Parts.{length-start}
use Rattle.blockcoder.proofs.Coding.{axis_room, codes-axis, behind_room, real_again, imaginary_again, axes-left, maps_both_axes, mapped-axes}
use Rattle.blockcoder.proofs.code.code_axes.Goals as goal

pub code_levels-requires : goal.code_levels-requires
code_levels-requires c =
    let p = c.requires in
    codes-axis p.0 p.1 c.args.order.ordered 0 (omega arith) (length-start _ _ (axis_room p.0)) refl

pub code_levels-requires-2 : goal.code_levels-requires-2
code_levels-requires-2 c =
    let p = c.requires in
    codes-axis p.0 p.1 c.args.order.ordered 1 (omega arith) (behind_room p.0 c.code_levels.ensures.labels_after) c.code_levels.auto.coded

pub map_axes_parts-requires : goal.map_axes_parts-requires
map_axes_parts-requires c =
    let p = c.requires in
    let r = c.code_levels.ensures.labels_after in
    let i = c.code_levels-2.ensures.labels_after in
    maps_both_axes p.0 p.1 (real_again p.0 r i) (imaginary_again p.0 r i)

pub returns : goal.returns
returns c =
    let p = c.requires in
    let r = c.code_levels.ensures.labels_after in
    let i = c.code_levels-2.ensures.labels_after in
    record { out_after = mapped-axes p.0 p.1 (real_again p.0 r i) (imaginary_again p.0 r i) c.map_axes_parts.ensures; parts_left = axes-left p.0 r i p.1 c.code_levels.ensures.coded_after c.code_levels-2.ensures.coded_after }
