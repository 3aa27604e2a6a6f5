use Rattle.std.proofs.Common.{arith, rules}
use Rattle.check_nearest.proofs.Reduced.{below_all}
use Rattle.check_nearest.proofs.reduce.Goals as goal

pub returns : goal.returns
returns c = (search rules, below_all _ _ c.requires (λ k h. c.loop-value.invariant k (omega arith)))
