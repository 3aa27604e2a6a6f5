-- `take_lines` meets its contract. Assumes nothing.
use Prim.Native.Nat.{◌+◌, ◌*◌}
use Rattle.holdreading.proofs.Lining.{Lining}
use Rattle.holdreading.proofs.reading.take_lines.Given as goal

abbrev pub invariant-loop-k : goal.invariant-loop-k
invariant-loop-k l = Lining l.form l.n l.lines l.file l.initial.memory (3 + l.k * l.long) (l.k * l.n) l.k l.memory
