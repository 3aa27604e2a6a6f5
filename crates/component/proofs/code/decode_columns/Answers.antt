-- `decode_columns` meets its contract. Assumes nothing.
use mathlib.Core.Path.{refl, sym}
use native.Mathlib.Omega.{arith}
use borrow.Author.Rules.{rules}
use Rattle.component.specs.Codeword.{following}
use Rattle.component.proofs.Register.{parity-first, newest_older, older_turn}
use Rattle.component.proofs.Reading.{start, room, turn, done}
use Rattle.component.proofs.Widths.{width_is}
use Rattle.component.proofs.code.decode_columns.Goals as goal

pub bounds-coded-coder : goal.bounds-coded-coder
bounds-coded-coder c =
    let l = c in
    omega (arith, room l.requires l.loop-place.invariant.0 (search rules))

pub next-requires : goal.next-requires
next-requires c = (search rules, rw c.newest-bit.ensures (omega arith))

pub offset_bounds-columns-i : goal.offset_bounds-columns-i
offset_bounds-columns-i c =
    let l = c in
    omega (arith, l.loop-place.invariant.0.column, l.args.columns.known.few)

pub bounds-columns-i : goal.bounds-columns-i
bounds-columns-i c =
    let l = c in
    omega (arith, l.loop-place.invariant.0.column, l.args.columns.known.there)

pub overflow_add-coder : goal.overflow_add-coder
overflow_add-coder c =
    let l = c in
    let s = l in
    omega (arith, s.args.columns.known.known l.loop-place.i l.loop-place.invariant.0.column, room s.requires l.loop-place.invariant.0 (search rules))

pub following-i-requires : goal.following-i-requires
following-i-requires c = omega (arith, c.loop-place.invariant.0.column, width_is c.args.columns.pattern c.args.columns.held)

pub loop-place-preserved : goal.loop-place-preserved
unfolding following
loop-place-preserved c =
    let l = c in
    let s = l in
    let e = c.newest-bit.ensures in
    let n = c.next.ensures in (
      turn
          s.requires
          l.loop-place.invariant.0
          (search rules)
          (newest_older _ _ _ _ e l.loop-place.invariant.1)
          refl
          n
          (omega (arith, s.args.columns.known.known l.loop-place.i l.loop-place.invariant.0.column))
          (rw (sym (width_is c.args.columns.pattern c.args.columns.held)) at c.following-i.ensures),
      older_turn _ _ _ _ _ l.loop-place.invariant.0.seven e n,
    )

pub returns : goal.returns
returns c = done c.requires c.loop-place.invariant.0 (search rules)

pub loop-place-init : goal.loop-place-init
loop-place-init c = (start c.requires, parity-first _)
