-- The digest with what is left taken is that with the whole taken.
use Rattle.std.proofs.Common.{◌≡◌, drop}
use Rattle.vectors.specs.Digest.{cells_taken}
use Rattle.vectors.proofs.digests.of_cells.Given as goal

abbrev pub invariant-loop-v : goal.invariant-loop-v
invariant-loop-v l = cells_taken l.d (drop l.v-index l.cells) ≡ cells_taken l.initial.d l.cells
