use Rattle.numerals.proofs.Scanning.{reading-start, reading_turn, reading_bad, reading_done, reading_short}
use Rattle.numerals.proofs.numbers.numbers.Goals as goal

pub loop-byte-init : goal.loop-byte-init
loop-byte-init c = reading-start _

pub returns-in_err-scan : goal.returns-in_err-scan
returns-in_err-scan c = rw c.from_residual.ensures (reading_bad c.loop-byte.invariant c.loop-byte-test.true c.in_err-scan.ensures.value)

pub loop-byte-preserved : goal.loop-byte-preserved
loop-byte-preserved c =
    let e = c.in_ok-scan.ensures in
    reading_turn c.loop-byte.invariant c.loop-byte-test.true e.value e.kept

pub returns-then-scan : goal.returns-then-scan
returns-then-scan c = reading_done c.loop-byte.invariant c.loop-byte-test.false c.if-scan.true

pub returns : goal.returns
returns c = reading_short c.loop-byte.invariant c.loop-byte-test.false c.if-scan.false
