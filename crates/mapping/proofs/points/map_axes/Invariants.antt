-- `map_axes` meets its contract. Assumes nothing.
use Rattle.block.specs.Mapping.{weave}
use Rattle.mapping.proofs.Coordinates.{Placing}
use Rattle.mapping.proofs.points.map_axes.Given as goal

abbrev pub invariant-loop-k : goal.invariant-loop-k
invariant-loop-k l = Placing l.fn.c (weave l.re l.im) l.initial.out l.out l.k
