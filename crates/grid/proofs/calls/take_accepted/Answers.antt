-- `calls::take_accepted` meets its contract. Assumes nothing.
use native.Mathlib.Omega.{arith}
use Rattle.grid.proofs.Accepts.{third_low, kinds-fit, parts-fit, part-taken}
use Rattle.grid.proofs.calls.take_accepted.Goals as goal

pub slice_bounds-places-end : goal.slice_bounds-places-end
slice_bounds-places-end c = omega (arith, c.buffer-places.ensures.long, third_low _ _ _ c.requires)

pub grid_kinds-requires : goal.grid_kinds-requires
grid_kinds-requires c = kinds-fit _ _ _ c.requires _ c.buffer-places.ensures.long

pub take_all-requires : goal.take_all-requires
take_all-requires c =
    let b = c in
    parts-fit _ _ _ b.requires _ _ b.grid_kinds.ensures

pub returns : goal.returns
returns c =
    let d = c in
    let b = d in
    part-taken _ _ _ b.requires _ _ b.grid_kinds.ensures _ d.take_all.ensures
