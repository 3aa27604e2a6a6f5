-- `map_cells` meets its contract. Assumes nothing.
use Prim.Native.Nat.{ℕ}
use lib.ListN.{get_or}
use lib.IntN.{pos}
use Rattle.lists.proofs.Tables.{Filled}
use Rattle.block.specs.Mapping.{constellation, axis}
use Rattle.mapping.proofs.points.map_cells.Given as goal

abbrev pub invariant-loop-k : goal.invariant-loop-k
invariant-loop-k l = Filled (pos 0) (λ (j : ℕ). get_or (axis (constellation l.fn.c) j) (get_or l.labels j 0) (pos 0)) l.initial.out l.out l.k
