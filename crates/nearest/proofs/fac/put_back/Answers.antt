-- `put_back` meets its contract. The loop's invariant: the first i values stand at their places. Assumes nothing.
use mathlib.Core.Path.{refl, sym, ◌∙◌}
use native.Mathlib.Omega.{arith}
use borrow.Author.Rules.{rules}
use Rattle.interleaver.proofs.Interleaving.{returned_start, returned_turn, deinterleaved_end}
use Rattle.nearest.proofs.Blocks.{cycles, tabulates, place_there, place_few}
use Rattle.nearest.proofs.fac.put_back.Goals as goal

pub make_places-requires : goal.make_places-requires
make_places-requires c = let a = c in tabulates a.args.received.now a.requires.0 (record { long = refl })

pub loop-i-init : goal.loop-i-init
loop-i-init c =
    let a = c in
    (search rules, returned_start _ _ _ (cycles a.args.received.now a.requires.0) _ _ (a.requires.1.long ∙ sym a.requires.0))

pub bounds-places-i : goal.bounds-places-i
bounds-places-i c = omega (arith, c.requires.0)

pub bounds-values-places : goal.bounds-values-places
bounds-values-places c =
    let a = c in
    let l = c.loop-i in
    omega (arith, l.invariant.1.long, place_few _ _ l.i (cycles a.args.received.now a.requires.0) c.make_places.ensures (search rules))

pub loop-i-preserved : goal.loop-i-preserved
loop-i-preserved c =
    let a = c in
    let l = c.loop-i in (
      search rules,
      returned_turn _ _ _ (cycles a.args.received.now a.requires.0) _ _ _ _ _ (search rules) (place_there _ _ l.i (cycles a.args.received.now a.requires.0) c.make_places.ensures (search rules)) refl l.invariant.1,
    )

pub returns : goal.returns
returns c =
    let i = c.loop-i.invariant in
    let a = c in
    deinterleaved_end _ _ _ (cycles a.args.received.now a.requires.0) _ _ i.0 c.loop-i-test.false i.1
