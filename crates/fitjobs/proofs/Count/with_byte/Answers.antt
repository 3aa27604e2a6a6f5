use mathlib.Core.Path.{refl, sym, ◌∙◌}
use native.Mathlib.Omega.{arith}
use Rattle.numerals.proofs.Scanning.{digit_range}
use Rattle.fitjobs.proofs.Fitted.{byte_other, byte_low, byte_high}
use Rattle.fitjobs.proofs.Count.with_byte.Goals as goal

pub returns-then-not-is_digit : goal.returns-then-not-is_digit
returns-then-not-is_digit c = byte_other c.args.self c.args.byte (sym c.is_digit.ensures ∙ c.if-not-is_digit.true)

pub overflow_sub-byte : goal.overflow_sub-byte
overflow_sub-byte c = (digit_range _ (sym c.is_digit.ensures ∙ c.if-not-is_digit.false)).0

pub returns-in_err-tens : goal.returns-in_err-tens
returns-in_err-tens c =
    let d = sym c.is_digit.ensures ∙ c.if-not-is_digit.false in
    rw c.from_residual.ensures (byte_high c.args.self c.args.byte d _ refl (omega (arith, c.in_err-tens.ensures)))

pub returns-in_err-value : goal.returns-in_err-value
returns-in_err-value c =
    let d = sym c.is_digit.ensures ∙ c.if-not-is_digit.false in
    rw c.from_residual-in_err-value.ensures
    (byte_high c.args.self c.args.byte d _ refl (omega (arith, c.in_err-value.ensures, c.in_ok-tens.ensures, c.from.ensures)))

pub returns : goal.returns
returns c =
    let d = sym c.is_digit.ensures ∙ c.if-not-is_digit.false in
    byte_low c.args.self c.args.byte d c.in_ok-value.value
    (omega (arith, c.in_ok-value.ensures, c.in_ok-tens.ensures, c.from.ensures)) (omega (arith, c.in_ok-value.ensures))
