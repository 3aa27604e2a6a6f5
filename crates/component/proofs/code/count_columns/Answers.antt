-- `count_columns` meets its contract. The loop's invariant: the sum and the coded bits of what is left are those of the whole. Assumes nothing.
use Prim.Native.Nat.{◌+◌, ◌-◌}
use mathlib.Core.Path.{◌≡◌}
use native.Mathlib.Omega.{arith}
use Rattle.component.specs.Codeword.{following}
use Rattle.component.specs.Decoding.{coded_length}
use Rattle.component.proofs.Codeword.{following_low}
use Rattle.component.proofs.Lengths.{coded_length_more}
use Rattle.component.proofs.code.count_columns.Goals as goal

pub loop-k-preserved : goal.loop-k-preserved
unfolding following
loop-k-preserved c =
    let l = c.loop-k in
    let p = c.args.pattern.now in
    let f = c.following-i.ensures in
    let d : c.args.n - (l.k + 1) ≡ c.args.n - l.k - 1 = omega arith in (
      rw f (following_low c.requires.0 l.i),
      rw (f, d) (omega (arith, c.ones-sum.ensures, coded_length_more p l.i (c.args.n - l.k) (omega arith), l.invariant.1)),
    )

pub returns : goal.returns
unfolding coded_length
returns c =
    let l = c.loop-k in
    let e : c.args.n - l.k ≡ 0 = omega arith in
    let q : l.sum + coded_length c.args.pattern.now l.i 0 ≡ coded_length c.args.pattern.now 0 c.args.n = rw e at l.invariant.1 in
    omega arith
