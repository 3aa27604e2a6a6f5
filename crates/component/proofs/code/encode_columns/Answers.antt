-- `encode_columns` meets its contract. Assumes nothing.
use borrow.Author.Rules.{rules}
use Rattle.component.specs.Codeword.{following}
use Rattle.component.proofs.Encoding.{start, room, turn, done}
use Rattle.component.proofs.code.encode_columns.Goals as goal

pub next-requires : goal.next-requires
next-requires c =
    (search rules, c.requires.input.bit c.loop-bit.bit-index)

pub keep_column-coder-requires : goal.keep_column-coder-requires
keep_column-coder-requires c =
    room c.requires c.loop-bit.invariant (search rules) c.next.result

pub loop-bit-preserved : goal.loop-bit-preserved
unfolding following
loop-bit-preserved c =
    let k = c.keep_column-coder.ensures in
    rw k.register_stays
    (turn c.requires c.loop-bit.invariant (search rules) c.next.ensures k.next_place k.written c.following-i.ensures)

pub returns : goal.returns
returns c = done c.requires c.loop-bit.invariant (search rules)

pub loop-bit-init : goal.loop-bit-init
loop-bit-init c = start c.requires
