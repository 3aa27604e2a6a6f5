-- `Rounds::lay` meets its contract. Assumes nothing.
use Rattle.component.specs.Register.{parity}
use Rattle.encoder.proofs.Spread.{Laying}
use Rattle.encoder.proofs.segment.Rounds.lay.Given as goal

abbrev pub invariant-loop-k : goal.invariant-loop-k
invariant-loop-k l = Laying (parity l.mask) l.registers l.fn.self.width l.fn.self.pairs l.initial.out l.at l.fn.self.stride l.out l.k
