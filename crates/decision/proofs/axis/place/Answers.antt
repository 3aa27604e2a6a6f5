-- `place` meets its contract. Assumes nothing.
use Prim.Native.Nat.{◌+◌, ◌-◌}
use mathlib.Core.Path.{◌≡◌, sym, ◌∙◌}
use native.Mathlib.Omega.{arith}
use Rattle.decision.proofs.Places.{placing_found}
use Rattle.decision.proofs.axis.place.Goals as goal

pub returns-then-below : goal.returns-then-below
returns-then-below c =
    let k = c.loop-i.i in
    let e : k - 1 + 1 ≡ k = omega arith in
    rw e (placing_found c.requires c.loop-i.invariant (λ h. sym c.below.ensures ∙ c.if-below.true))

pub returns : goal.returns
returns c =
    let l = c.loop-i in
    let e : l.i ≡ c.args.first = omega (arith, l.invariant.low) in
    rw e at (placing_found c.requires l.invariant (λ h. absurd (omega arith)))
