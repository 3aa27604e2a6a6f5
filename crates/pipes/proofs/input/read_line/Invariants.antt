use Prim.Native.Nat.{◌≤◌}
use Rattle.pipes.proofs.input.read_line.Given as goal

abbrev pub invariant-loop : goal.invariant-loop
invariant-loop g l = l.count ≤ 256
