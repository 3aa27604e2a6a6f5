-- `crc` meets its contract. Assumes nothing.
use borrow.Author.Rules.{rules}
use Rattle.crc.proofs.Register.{start, turn, done}
use Rattle.crc.proofs.word.crc.Goals as goal

pub loop-n-preserved : goal.loop-n-preserved
loop-n-preserved c = turn c.loop-n.invariant (search rules) c.shift-register.result (search rules) c.shift-register.ensures

pub returns : goal.returns
returns c = done c.loop-n.invariant (search rules)

pub loop-n-init : goal.loop-n-init
loop-n-init c = start c.args.word
