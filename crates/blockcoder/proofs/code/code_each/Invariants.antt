-- `code_each` meets its contract. The loop's invariant: the cells of the blocks before i are there. Assumes nothing.
use mathlib.Core.Path.{◌≡◌}
use Rattle.blockcoder.proofs.Each.{Coded}
use Rattle.blockcoder.proofs.code.code_each.Given as goal

abbrev pub invariant-loop-i : goal.invariant-loop-i
invariant-loop-i g l = Coded l.order.block l.many l.bytes l.initial.out l.out l.i × (l.work.order.block ≡ l.order.block)
