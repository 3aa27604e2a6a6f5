-- `interleaver::size_of` meets its contract. Assumes nothing.
use native.Mathlib.Omega.{arith}
use Rattle.interleaver.proofs.Size.{leading_size}
use Rattle.interleaver.proofs.order.size_of.Goals as goal

pub returns : goal.returns
returns c = leading_size 32 64 c.args.n (omega arith) (omega arith) (omega arith)
