-- `unmap_cells` meets its contract. Assumes nothing.
use Prim.Native.Nat.{ℕ}
use lib.ListN.{get_or}
use lib.IntN.{pos}
use Rattle.lists.proofs.Tables.{Filled}
use Rattle.block.specs.Mapping.{constellation, axis}
use Rattle.block.specs.Reading.{place_of}
use Rattle.mapping.proofs.points.unmap_cells.Given as goal

abbrev pub invariant-loop-k : goal.invariant-loop-k
invariant-loop-k l = Filled 0 (λ (j : ℕ). place_of (axis (constellation l.fn.c) j) (get_or l.cells j (pos 0))) l.initial.out l.out l.k
