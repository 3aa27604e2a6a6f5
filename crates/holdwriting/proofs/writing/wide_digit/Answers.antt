-- `wide_digit` meets its contract. Assumes nothing.
use Rattle.holdwriting.proofs.Putting.{wide_last, wide_positive, wide_negative}
use Rattle.holdwriting.proofs.writing.wide_digit.Goals as goal

pub returns-then-j-eq3 : goal.returns-then-j-eq3
returns-then-j-eq3 c = wide_last _ _ _ c.requires.0 c.if-j-eq3.true c.digit.ensures

pub returns-then-v-lt8 : goal.returns-then-v-lt8
returns-then-v-lt8 c = wide_positive _ _ c.if-v-lt8.true c.requires.1 c.if-j-eq3.false

pub returns : goal.returns
returns c = wide_negative _ _ c.if-v-lt8.false c.requires.0 c.requires.1 c.if-j-eq3.false
