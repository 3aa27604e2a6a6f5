-- `table::make_places` meets its contract. Assumes nothing.
use Prim.Native.Nat.{◌+◌, ◌*◌}
use mathlib.Core.Path.{◌≡◌, refl}
use native.Mathlib.Omega.{arith}
use Rattle.interleaver.proofs.Places.{size-four}
use Rattle.interleaver.proofs.Chains.{strides_fit, leads_second, leads_third, making_start, making_end, making_leads, making_first, making_second, making_third, making_fourth, making_turn, making_stop, turn_more}
use Rattle.interleaver.proofs.table.make_places.Goals as goal

pub overflow_mul-further : goal.overflow_mul-further
overflow_mul-further c = omega (arith, strides_fit _ _ _ _ c.requires.fits c.size_of-s.ensures c.offset_of-q.ensures)

pub overflow_add-further : goal.overflow_add-further
overflow_add-further c = omega (arith, strides_fit _ _ _ _ c.requires.fits c.size_of-s.ensures c.offset_of-q.ensures)

pub overflow_mul-far : goal.overflow_mul-far
overflow_mul-far c = omega (arith, strides_fit _ _ _ _ c.requires.fits c.size_of-s.ensures c.offset_of-q.ensures)

pub overflow_add-far : goal.overflow_add-far
overflow_add-far c = omega (arith, strides_fit _ _ _ _ c.requires.fits c.size_of-s.ensures c.offset_of-q.ensures)

pub ahead-z-requires : goal.ahead-z-requires
ahead-z-requires c = leads_second _ _ _ _ c.requires.fits c.size_of-s.ensures c.offset_of-q.ensures

pub ahead-w-requires : goal.ahead-w-requires
ahead-w-requires c =
    leads_third _ _ _ _ c.requires.fits c.size_of-s.ensures c.offset_of-q.ensures c.ahead-z.ensures

pub loop-turn-init : goal.loop-turn-init
loop-turn-init c =
    let m = c in
    making_start m.requires m.size_of-s.ensures m.offset_of-q.ensures c.ahead-z.ensures c.ahead-w.ensures

pub keep-end-requires : goal.keep-end-requires
keep-end-requires c = making_first c.loop-turn.invariant (turn_more c.loop-turn-test.true)

pub keep-end-requires-in-loop-turn : goal.keep-end-requires-in-loop-turn
keep-end-requires-in-loop-turn c =
    let one = c in
    let m = one in
    making_second m.loop-turn.invariant (turn_more m.loop-turn-test.true) one.keep-end.ensures

pub keep-end-requires-in-loop-turn-2 : goal.keep-end-requires-in-loop-turn-2
keep-end-requires-in-loop-turn-2 c =
    let two = c in
    let one = two in
    let m = one in
    making_third m.loop-turn.invariant (turn_more m.loop-turn-test.true) one.keep-end.ensures two.keep-end-in-loop-turn.ensures

pub keep-end-requires-in-loop-turn-3 : goal.keep-end-requires-in-loop-turn-3
keep-end-requires-in-loop-turn-3 c =
    let three = c in
    let two = three in
    let one = two in
    let m = one in
    making_fourth m.loop-turn.invariant (turn_more m.loop-turn-test.true) one.keep-end.ensures two.keep-end-in-loop-turn.ensures three.keep-end-in-loop-turn-2.ensures

pub ahead-x-requires : goal.ahead-x-requires
ahead-x-requires c = (making_leads c.loop-turn.invariant).0

pub ahead-y-requires : goal.ahead-y-requires
ahead-y-requires c = (making_leads c.loop-turn.invariant).1

pub ahead-z-requires-in-loop-turn : goal.ahead-z-requires-in-loop-turn
ahead-z-requires-in-loop-turn c = (making_leads c.loop-turn.invariant).2

pub ahead-w-requires-in-loop-turn : goal.ahead-w-requires-in-loop-turn
ahead-w-requires-in-loop-turn c = (making_leads c.loop-turn.invariant).3

pub loop-turn-preserved : goal.loop-turn-preserved
loop-turn-preserved c =
    let four = c in
    let three = four in
    let two = three in
    let one = two in
    let m = one in
    let e : 4 * (m.loop-turn._turn + 1) ≡ 4 * m.loop-turn._turn + 4 = omega arith in
    rw e
    (making_turn m.loop-turn.invariant (turn_more m.loop-turn-test.true) one.keep-end.ensures two.keep-end-in-loop-turn.ensures three.keep-end-in-loop-turn-2.ensures four.keep-end-in-loop-turn-3.ensures
    c.ahead-x.ensures c.ahead-y.ensures c.ahead-z-in-loop-turn.ensures c.ahead-w-in-loop-turn.ensures)

pub offset_of-q-requires : goal.offset_of-q-requires
offset_of-q-requires c = omega (arith, c.size_of-s.ensures, size-four _ _ c.requires.fits.cycles)

pub returns : goal.returns
returns c = making_end c.loop-turn.invariant (making_stop c.loop-turn.invariant refl c.loop-turn-test.false)
