use Rattle.std.proofs.Common.{refl, ap, ◌∙◌, arith}
use Rattle.frameparts.proofs.Loops.{gone_start, gone_turn, room_all_lem, puts, lay_begin, lay_turn, lay_done}
use Rattle.frameparts.proofs.parts.lay_parts.Goals as goal

pub loop-share-init : goal.loop-share-init
loop-share-init c =
    let e = ap (λ t. t.a) c.sums-tob.ensures.value in
    let i = c.into_iter-share-iterator.ensures.into_iter_gives in
    let f = c.chunks_exact-share-items.ensures in
    let r = ap (λ t. t.rest.now) i ∙ f.rest in
    (gone_start c.requires _ e r (ap (λ t. t.size) i ∙ f.size), rw r (lay_begin c.requires _ e), refl)

pub put_logical-requires : goal.put_logical-requires
put_logical-requires c =
    let t = c.in-Some.ensures.steps in
    puts c.loop-share.invariant.0 _ _ t.1.0 t.1.1 _ _ refl (c.loop-share.invariant.2 ∙ c.requires.same)

pub loop-share-preserved : goal.loop-share-preserved
loop-share-preserved c =
    let l = c.loop-share in
    let t = c.in-Some.ensures.steps in
    (gone_turn l.invariant.0 _ _ t.1.0 t.1.1 t.0, lay_turn l.invariant.0 _ _ t.1.0 t.1.1 _ refl _ _ c.put_logical.ensures ∙ l.invariant.1, c.put_logical.auto.parts ∙ l.invariant.2)

pub slice_bounds-put_logical-end : goal.slice_bounds-put_logical-end
slice_bounds-put_logical-end c =
    let t = c.in-Some.ensures.steps in
    omega (arith, room_all_lem c.loop-share.invariant.0 _ _ t.1.0 t.1.1)

pub returns : goal.returns
returns c =
    let l = c.loop-share in
    lay_done _ l.parts l.toa l.tob l.from _ (omega (arith, c.in-None.ensures.steps.1.0, l.invariant.0.two)) l.invariant.1
