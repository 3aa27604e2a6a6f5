use Rattle.std.proofs.Common.{ℕ, ◌<◌, get_or}
use Rattle.check_nearest.proofs.reduce.Given as goal

abbrev pub invariant-loop-value : goal.invariant-loop-value
invariant-loop-value l = (k : ℕ) → k < l.value-index → get_or l.values k 0 < l.m
