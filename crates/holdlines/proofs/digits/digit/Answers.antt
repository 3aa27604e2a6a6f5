-- `digit` meets its contract. Assumes nothing.
use borrow.Author.Tests.{lt-ltb, le-ltb}
use Rattle.holdlines.specs.Hexadecimal.{digit}
use Rattle.holdlines.proofs.digits.digit.Goals as goal

pub returns-then-n-lt10 : goal.returns-then-n-lt10
unfolding digit
returns-then-n-lt10 c = rw (lt-ltb c.args.n 10 c.if-n-lt10.true)

pub returns : goal.returns
unfolding digit
returns c = rw (le-ltb c.args.n 10 c.if-n-lt10.false)
