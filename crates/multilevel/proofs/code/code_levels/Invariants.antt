-- `code::code_levels` meets its contract. Assumes nothing.
use Prim.Native.Nat.{◌-◌, ◌/◌}
use lib.ListN.{length}
use Rattle.block.specs.Block.{one_axis}
use Rattle.multilevel.proofs.Summing.{Summing, Over}
use Rattle.multilevel.proofs.code.code_levels.Given as goal

abbrev pub invariant-loop-turn : goal.invariant-loop-turn
invariant-loop-turn l = Summing (one_axis l.k) l.k.levels l.places l.a l.b (length l.initial.labels) l.first l.step (l.k.count / l.step) l.labels l.l l.weight (l.k.count / l.step - l.turn) × Over l.k.levels l.a l.b l.first l.step (l.k.count / l.step) l.initial.coded l.coded l.l (l.k.count / l.step - l.turn)
