use mathlib.Core.Path.{sym}
use Rattle.line.proofs.Digits.{left-start, left_turn, left_stop, left_done, none_digit, some_digit}
use Rattle.line.proofs.read.are_digits.Goals as goal

pub returns-then-is_none : goal.returns-then-is_none
returns-then-is_none c =
    sym (left_stop _ _ _ c.loop-i.invariant c.loop-i-test.true (none_digit _ _ _ c.digit.ensures c.is_none.ensures c.if-is_none.true))

pub loop-i-preserved : goal.loop-i-preserved
loop-i-preserved c =
    left_turn _ _ _ c.loop-i.invariant c.loop-i-test.true (some_digit _ _ _ c.digit.ensures c.is_none.ensures c.if-is_none.false)

pub returns : goal.returns
returns c = sym (left_done _ _ _ c.loop-i.invariant c.loop-i-test.false)

pub loop-i-init : goal.loop-i-init
loop-i-init c = left-start _ _
