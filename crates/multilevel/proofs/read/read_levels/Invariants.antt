-- `read::read_levels` meets its contract. Assumes nothing.
use Prim.Native.Nat.{◌+◌, ◌-◌, ◌*◌, ◌/◌, ◌^◌}
use Rattle.multilevel.proofs.LevelsRead.{Reading}
use Rattle.multilevel.proofs.read.read_levels.Given as goal

abbrev pub invariant-loop-turn : goal.invariant-loop-turn
invariant-loop-turn l = Reading l.k l.places l.labels l.initial.coded l.initial.bits l.first l.step (l.k.count / l.step) l.coded l.bits (l.first + l.step * l.turn) (2 ^ l.turn) (l.k.count / l.step - l.turn)
