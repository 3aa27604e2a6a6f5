use native.Mathlib.Omega.{arith}
use Rattle.std.proofs.Common.{length, ◌-◌}
use Rattle.vectors.proofs.Drawn.{cleared_none, cleared_last}
use Rattle.vectors.proofs.draws.clear.Goals as goal

pub returns-in-Some : goal.returns-in-Some
returns-in-Some c =
    let bytes = c.args.bytes.now in
    rw (c.in-Some.ensures.item.3.1 0) (cleared_last _ _ (omega (arith, c.slice_known-1.given (length bytes - 1))))

pub returns-in_default : goal.returns-in_default
returns-in_default c = cleared_none _ _ (omega (arith, c.in_default.ensures.item.3))
