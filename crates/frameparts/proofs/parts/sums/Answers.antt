use Rattle.std.proofs.Common.{ap, ◌∙◌, arith}
use Rattle.frameparts.proofs.Loops.{summed_start, two_small, summed_turn, summed_end}
use Rattle.frameparts.proofs.parts.sums.Goals as goal

pub loop-share-init : goal.loop-share-init
loop-share-init c =
    let e = c.into_iter-share-iterator.ensures.into_iter_gives in
    let f = c.chunks_exact-share-items.ensures in
    summed_start (ap (λ t. t.rest.now) e ∙ f.rest) (ap (λ t. t.size) e ∙ f.size) (λ k. (c.type_inv.numbers k).fits)

pub overflow_add-a : goal.overflow_add-a
overflow_add-a c = omega (arith, c.loop-share.invariant.low_a, (c.type_inv.share 0).fits, c.requires)

pub overflow_add-b : goal.overflow_add-b
overflow_add-b c =
    let t = c.in-Some.ensures.steps in
    omega (arith, c.loop-share.invariant.low_b, (two_small _ _ t.1.0 t.1.1 c.loop-share.invariant).1, c.requires)

pub loop-share-preserved : goal.loop-share-preserved
loop-share-preserved c =
    let t = c.in-Some.ensures.steps in
    summed_turn _ _ t.1.0 t.1.1 t.0 c.loop-share.invariant

pub returns-clause-value : goal.returns-clause-value
returns-clause-value c = summed_end c.loop-share.invariant c.in-None.ensures.steps.1.0

pub returns-clause-a_bound : goal.returns-clause-a_bound
returns-clause-a_bound c = let s = c.loop-share.invariant in (omega (arith, s.low_a, c.requires), omega (arith, s.low_b, c.requires))
