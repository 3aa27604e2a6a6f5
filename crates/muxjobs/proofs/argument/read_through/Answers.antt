use mathlib.Core.Bool.{true, false}
use Rattle.muxjobs.proofs.Told.{word-whole, word_none, word_test}
use Rattle.muxjobs.proofs.argument.read_through.Goals as goal

pub returns-then-whole-clause-value : goal.returns-then-whole-clause-value
returns-then-whole-clause-value c =
    let r = c.read_word-reading in
    word-whole c.args.word.now r.result r.ensures.value (word_test c.args.word.now r.result c.described.result true c.described.ensures c.if-whole.true)

pub returns-else-whole-clause-value : goal.returns-else-whole-clause-value
returns-else-whole-clause-value c =
    let r = c.read_word-reading in
    word_none c.args.word.now r.result r.ensures.value (word_test c.args.word.now r.result c.described.result false c.described.ensures c.if-whole.false)
