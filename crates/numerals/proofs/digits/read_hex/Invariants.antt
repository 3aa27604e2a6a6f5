use Rattle.lists.proofs.Tables.{Filled}
use Rattle.line.specs.Read.{byte_at}
use Rattle.numerals.proofs.digits.read_hex.Given as goal

abbrev pub invariant-loop-k : goal.invariant-loop-k
invariant-loop-k g l = Filled 0 (byte_at l.line) l.initial.byte-items l.byte-items l.k
