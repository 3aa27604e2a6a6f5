-- `encode_blocks` meets its contract. Assumes nothing.
use Prim.Native.Nat.{◌+◌, ◌*◌, ◌≤◌}
use Rattle.encoder.proofs.Parts.{Blocks}
use Rattle.encoder.proofs.segment.encode_blocks.Given as goal

abbrev pub invariant-loop-k : goal.invariant-loop-k
invariant-loop-k l = Blocks l.pattern l.bits l.first l.initial.out l.at l.out (l.at + 2 * l.k * l.stride) (l.first + 2 * l.k * l.width) × (l.k ≤ l.pairs)
