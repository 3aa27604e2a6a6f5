use Rattle.std.proofs.Common.{arith}
use Rattle.howlong.proofs.Counting.{zero_bits_lem, no_zero-bits}
use Rattle.howlong.proofs.calls.zero_bits.Goals as goal

pub returns-then-n-eq0 : goal.returns-then-n-eq0
returns-then-n-eq0 c = (no_zero-bits c.args.l2 c.args.n c.if-n-eq0.true, omega arith)

pub returns : goal.returns
returns c = (zero_bits_lem c.args.l2 c.args.n c.requires.some c.if-n-eq0.false, omega arith)
