use native.Mathlib.Nat.{zero-add}
use native.Mathlib.Omega.{arith}
use lib.ListN.{length-set}
use Rattle.std.proofs.Common.{◌≡◌, length, ◌∙◌}
use Rattle.lists.proofs.Parts.{sets-whole}
use Rattle.linejobs.specs.Nearest.{values_in}
use Rattle.console.proofs.Copied.{copied_more, copied_all}
use Rattle.linejobs.proofs.ReceivedValues.{values_long, value_there, no_value}
use Rattle.linejobs.proofs.received.read_values.Goals as goal

pub returns-in_err-values-clause-none : goal.returns-in_err-values-clause-none
returns-in_err-values-clause-none c = rw c.from_residual.ensures (no_value _ _ c.loop-i-test.true c.in_err-values.ensures.none)

pub loop-i-preserved : goal.loop-i-preserved
loop-i-preserved c =
    let l = c.loop-i in
    let x = c.args.line.now in
    let h = c.loop-i-test.true in
    let m = copied_more 0 _ (values_in x) l.values 0 l.i _ (omega (arith, h, values_long x)) (value_there x l.i _ h c.in_ok-values.ensures.some) l.invariant.0 in
    (rw zero-add at m, length-set l.values _ _ ∙ l.invariant.1)

pub returns-clause-some : goal.returns-clause-some
returns-clause-some c =
    let l = c.loop-i in
    let x = c.args.line.now in
    let e : l.i ≡ length (values_in x) = omega (arith, values_long x) in
    copied_all 0 _ (values_in x) _ _ l.i e l.invariant.0 ∙ sets-whole _ (values_in x) (omega (arith, c.requires, values_long x))
