-- What the rest of the line leads to.
use mathlib.Core.Path.{◌≡◌, sym, ◌∙◌}
use native.Mathlib.Omega.{arith}
use Rattle.numerals.proofs.Scanning.{digit_range}
use Rattle.planjobs.proofs.Scanned.{scanning_start, scanning_turn, scanning_stop, scanning_end}
use Rattle.planjobs.proofs.lines.digits_from.Goals as goal

pub loop-next-init : goal.loop-next-init
loop-next-init c = (scanning_start _ _, omega arith)

pub returns-then-not-is_digit-clause-value : goal.returns-then-not-is_digit-clause-value
returns-then-not-is_digit-clause-value c =
    scanning_stop _ _ _ _ c.loop-next-test.true (sym c.is_digit.ensures ∙ c.if-not-is_digit.true) c.loop-next.invariant.0

pub overflow_sub-byte : goal.overflow_sub-byte
overflow_sub-byte c = (digit_range _ (sym c.is_digit.ensures ∙ c.if-not-is_digit.false)).0

pub grown-value-requires : goal.grown-value-requires
grown-value-requires c = omega (arith, digit_range _ (sym c.is_digit.ensures ∙ c.if-not-is_digit.false))

pub loop-next-preserved : goal.loop-next-preserved
loop-next-preserved c =
    let turn = scanning_turn _ _ _ _ _ c.loop-next-test.true (sym c.is_digit.ensures ∙ c.if-not-is_digit.false) c.grown-value.ensures c.loop-next.invariant.0 in
    (turn, omega arith)

pub returns-clause-value : goal.returns-clause-value
returns-clause-value c =
    let l = c.loop-next in
    let e : c.max-next.result ≡ l.next = omega (arith, c.max-next.ensures, l.invariant.1, c.loop-next-test.false, l.auto.next) in
    rw e (scanning_end _ _ _ _ (omega (arith, c.loop-next-test.false)) l.invariant.0)
