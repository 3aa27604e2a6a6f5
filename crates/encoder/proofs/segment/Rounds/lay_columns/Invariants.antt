-- `Rounds::lay_columns` meets its contract. Assumes nothing.
use Prim.Native.Nat.{◌*◌}
use Rattle.encoder.proofs.Rounds.{LayingColumns}
use Rattle.encoder.proofs.segment.Rounds.lay_columns.Given as goal

abbrev pub invariant-loop-i : goal.invariant-loop-i
invariant-loop-i l = LayingColumns l.pattern l.registers (2 * l.fn.self.pairs) l.initial.out l.at-2 l.fn.self.stride l.out l.at l.i
