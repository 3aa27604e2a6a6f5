use mathlib.Core.Path.{◌≡◌}
use Prim.Native.Nat.{ℕ, ◌*◌, ◌/◌}
use native.Mathlib.Omega.{arith}
use Rattle.patterns.specs.Patterns.{RX, RY}
use Rattle.partlengths.specs.Clauses.{share}
use Rattle.partlengths.proofs.Parts.{RY_positive, share_low}
use Rattle.partlengths.proofs.formulas.share.Goals as goal

is_share : (x y coded rate : ℕ) → x ≡ RX rate → y ≡ RY rate → x * (coded / y) ≡ share coded rate
unfolding share
is_share x y coded rate e f = rw (e, f)

pub nonzero_div-result : goal.nonzero_div-result
nonzero_div-result c = rw c.denominator.ensures (RY_positive c.args.rate)

pub overflow_mul-result : goal.overflow_mul-result
overflow_mul-result c =
    let low = share_low c.args.coded c.args.rate in
    let whole = is_share _ _ c.args.coded c.args.rate c.numerator.ensures.0 c.denominator.ensures in
    omega arith

pub returns : goal.returns
returns c = is_share _ _ c.args.coded c.args.rate c.numerator.ensures.0 c.denominator.ensures
