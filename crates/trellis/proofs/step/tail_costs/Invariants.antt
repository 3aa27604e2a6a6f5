-- `tail_costs` meets its contract. Assumes nothing.
use Prim.Native.Nat.{◌*◌, ◌≤◌}
use lib.ListN.{drop}
use Rattle.component.specs.Codeword.{tail_bits}
use Rattle.lists.proofs.Tables.{Filled}
use Rattle.trellis.specs.Clauses.{along}
use Rattle.trellis.proofs.step.tail_costs.Given as goal

abbrev pub invariant-loop-s : goal.invariant-loop-s
invariant-loop-s l = Filled 0 (λ s. along (2 * s) tail_bits (drop l.at l.values)) l.initial.costs l.costs l.s × (l.s ≤ 64)
