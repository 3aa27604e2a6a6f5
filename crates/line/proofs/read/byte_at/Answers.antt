use native.Mathlib.Omega.{arith}
use Rattle.line.proofs.Digits.{found_or}
use Rattle.line.specs.Read.{byte_at}
use Rattle.line.proofs.read.byte_at.Goals as goal

pub overflow_mul-result : goal.overflow_mul-result
overflow_mul-result c =
    let high = found_or _ _ _ c.requires.high c.digit.ensures c.unwrap_or-high.ensures in
    omega (arith, high, c.requires.high)

pub overflow_add-result : goal.overflow_add-result
overflow_add-result c =
    let high = found_or _ _ _ c.requires.high c.digit.ensures c.unwrap_or-high.ensures in
    let low = found_or _ _ _ c.requires.low c.digit-2.ensures c.unwrap_or-low.ensures in
    omega (arith, high, low, c.requires.high, c.requires.low)

pub returns : goal.returns
unfolding byte_at
returns c =
    let high = found_or _ _ _ c.requires.high c.digit.ensures c.unwrap_or-high.ensures in
    let low = found_or _ _ _ c.requires.low c.digit-2.ensures c.unwrap_or-low.ensures in
    rw (high, low)
