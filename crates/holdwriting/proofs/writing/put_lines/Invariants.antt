-- `put_lines` meets its contract. Assumes nothing.
use Prim.Native.Nat.{◌+◌, ◌*◌}
use Rattle.holdwriting.proofs.LinesPut.{Writing}
use Rattle.holdwriting.proofs.writing.put_lines.Given as goal

abbrev pub invariant-loop-k : goal.invariant-loop-k
invariant-loop-k l = Writing l.form l.n l.lines l.memory l.initial.out (3 + l.k * l.long) (l.k * l.n) l.k l.out
