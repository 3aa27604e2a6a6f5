-- What the rules from k on say of the minute.
use Rattle.std.proofs.Common.{◌≡◌, arith, sym, ◌∙◌}
use Rattle.plan.proofs.Loops.{asked_start, asked_has, asked_not, asked_end}
use Rattle.plan.proofs.rules.find.Goals as goal

pub loop-k-init : goal.loop-k-init
loop-k-init c = rw c.count-many.ensures (asked_start _ _)

pub loop-k-preserved-then-has : goal.loop-k-preserved-then-has
loop-k-preserved-then-has c = asked_has _ _ _ _ c.loop-k-test.true c.loop-k.invariant _ c.rule_at.ensures (sym c.has.ensures ∙ c.if-has.true)

pub loop-k-preserved : goal.loop-k-preserved
loop-k-preserved c = asked_not _ _ _ _ c.loop-k-test.true c.loop-k.invariant _ c.rule_at.ensures (sym c.has.ensures ∙ c.if-has.false)

pub returns : goal.returns
returns c =
    let k : c.loop-k.k ≡ 0 = omega arith in
    asked_end _ _ _ (rw k at c.loop-k.invariant)
