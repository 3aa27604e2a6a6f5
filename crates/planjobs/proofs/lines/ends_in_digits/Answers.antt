use mathlib.Core.Path.{ap, ◌∙◌}
use native.Mathlib.Omega.{arith}
use borrow.Author.Tests.{eq-eqb, ne_eqb}
use Rattle.lists.proofs.Parts.{to_end, length_end}
use Rattle.line.specs.Read.{digits}
use Rattle.planjobs.proofs.lines.ends_in_digits.Goals as goal

pub returns-then-line-from : goal.returns-then-line-from
returns-then-line-from c = rw (ne_eqb _ _ c.if-line-from.true)

pub slice_bounds-are_digits-count : goal.slice_bounds-are_digits-count
slice_bounds-are_digits-count c = omega (arith, c.if-line-from.false)

pub slice_bounds-are_digits-start : goal.slice_bounds-are_digits-start
slice_bounds-are_digits-start c = omega (arith, c.if-line-from.false)

pub are_digits-requires : goal.are_digits-requires
are_digits-requires c =
    let a = c in
    omega (arith, c.if-line-from.false, length_end a.args.from a.args.line.now)

pub returns : goal.returns
returns c =
    let a = c in
    rw (eq-eqb _ _ c.if-line-from.false) (c.are_digits.ensures ∙ ap (λ l. digits l 0 20) (to_end a.args.from a.args.line.now))
