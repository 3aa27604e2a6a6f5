-- `read_each` meets its contract. The loop's invariant: the blocks before i are read. Assumes nothing.
use mathlib.Core.Path.{◌≡◌}
use Rattle.blockreader.proofs.BlockTurns.{Blocks}
use Rattle.blockreader.proofs.several.read_each.Given as goal

abbrev pub invariant-loop-i : goal.invariant-loop-i
invariant-loop-i g l = Blocks l.initial.work.order.block l.many l.cells l.initial.bytes l.given l.bytes l.i × (l.work.order.block ≡ l.initial.work.order.block)
