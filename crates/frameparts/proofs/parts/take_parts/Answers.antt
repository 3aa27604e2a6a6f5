use Rattle.std.proofs.Common.{refl, ap, ◌∙◌, arith}
use Rattle.frameparts.proofs.Loops.{gone_start, gone_turn, room_all_lem, puts, take_begin, take_turn, long_written, take_done}
use Rattle.frameparts.proofs.parts.take_parts.Goals as goal

pub loop-share-init : goal.loop-share-init
loop-share-init c =
    let e = ap (λ t. t.a) c.sums-fromb.ensures.value in
    let i = c.into_iter-share-iterator.ensures.into_iter_gives in
    let f = c.chunks_exact-share-items.ensures in
    let r = ap (λ t. t.rest.now) i ∙ f.rest in
    (gone_start c.requires _ e r (ap (λ t. t.size) i ∙ f.size), rw r (take_begin c.requires _ e), refl)

pub take_logical-requires : goal.take_logical-requires
take_logical-requires c =
    let t = c.in-Some.ensures.steps in
    puts c.loop-share.invariant.0 _ _ t.1.0 t.1.1 _ _ (c.loop-share.invariant.2 ∙ c.requires.same) refl

pub loop-share-preserved : goal.loop-share-preserved
loop-share-preserved c =
    let l = c.loop-share in
    let t = c.in-Some.ensures.steps in
    let long = l.invariant.2 ∙ c.requires.same in
    let q = c.take_logical.ensures in
    (gone_turn l.invariant.0 _ _ t.1.0 t.1.1 t.0, take_turn l.invariant.0 _ _ t.1.0 t.1.1 _ _ _ refl long q ∙ l.invariant.1, long_written l.invariant.0 _ _ t.1.0 t.1.1 _ _ _ refl long q ∙ l.invariant.2)

pub slice_bounds-take_logical-end : goal.slice_bounds-take_logical-end
slice_bounds-take_logical-end c =
    let t = c.in-Some.ensures.steps in
    omega (arith, c.requires.same, room_all_lem c.loop-share.invariant.0 _ _ t.1.0 t.1.1)

pub returns : goal.returns
returns c =
    let l = c.loop-share in
    take_done _ l.streams l.froma l.fromb l.to _ (omega (arith, c.in-None.ensures.steps.1.0, l.invariant.0.two)) l.invariant.1
