-- `encode_columns` meets its contract. Assumes nothing.
use Rattle.component.proofs.Encoding.{Encoding}
use Rattle.component.proofs.code.encode_columns.Given as goal

abbrev pub invariant-loop-bit : goal.invariant-loop-bit
invariant-loop-bit l = Encoding l.pattern l.fn.from.register l.bits l.initial.out l.fn.from.at l.out l.coder.register l.coder.at l.i l.bit-index
