-- `split` meets its contract. Assumes nothing.
use Prim.Native.Nat.{◌-◌, ◌<◌}
use mathlib.Core.Path.{refl}
use native.Mathlib.Nat.{mod-lt}
use native.Mathlib.Omega.{arith}
use borrow.Author.Rules.{rules}
use Rattle.facblocks.proofs.Parameters.{value-some, value_most, split_start, split_turn, split_done}
use Rattle.facblocks.proofs.word.split.Goals as goal

pub overflow_cast-parameters : goal.overflow_cast-parameters
overflow_cast-parameters c =
    let l = c.loop-k in
    let low : l.k - 1 < 16 = omega arith in
    omega (arith, mod-lt l.left (value-some (l.k - 1) low), value_most (l.k - 1) low)

pub nonzero_rem-parameters : goal.nonzero_rem-parameters
nonzero_rem-parameters c = omega (arith, value-some (c.loop-k.k - 1))

pub loop-k-init : goal.loop-k-init
loop-k-init c = split_start c.args.word _ refl

pub loop-k-preserved : goal.loop-k-preserved
loop-k-preserved c = split_turn c.loop-k.invariant c.loop-k-test.true

pub returns : goal.returns
returns c = split_done c.loop-k.invariant (search rules)
