-- `decide_by` meets its contract. Assumes nothing.
use mathlib.Core.Path.{refl}
use Rattle.measured.proofs.Accepts.{accepted_points, accepted-bits}
use Rattle.measured.proofs.calls.decide_by.Goals as goal

pub decide_points-requires : goal.decide_points-requires
decide_points-requires c =
    let i = c in
    accepted_points _ _ _ _ _ _ c.in_ok-check.ensures refl _ refl

pub decide_bits-requires : goal.decide_bits-requires
decide_bits-requires c =
    let d = c in
    let i = d in
    accepted-bits _ _ _ _ _ _ c.in_ok-check.ensures refl _ _ refl d.decide_points.ensures
