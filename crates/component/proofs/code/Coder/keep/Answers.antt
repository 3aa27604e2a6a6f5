-- `Coder::keep` meets its contract. Assumes nothing.
use Prim.Native.Nat.{◌%◌}
use mathlib.Core.Path.{◌≡◌}
use native.Mathlib.Omega.{arith}
use Rattle.component.specs.Codeword.{kept}
use Rattle.component.proofs.Codeword.{kept_odd, kept_even}
use Rattle.component.proofs.code.Coder.keep.Goals as goal

pub returns-then-column-eq0-clause-written : goal.returns-then-column-eq0-clause-written
unfolding kept
returns-then-column-eq0-clause-written c = rw (kept_even _ _ _ c.if-column-eq0.true)

pub returns-clause-written : goal.returns-clause-written
unfolding kept
returns-clause-written c = let odd : c.args.column % 2 ≡ 1 = omega arith in rw (kept_odd _ _ _ odd, c.parity.ensures)
