-- `table::make_places` meets its contract. Assumes nothing.
use Prim.Native.Nat.{◌*◌}
use Rattle.interleaver.proofs.Chains.{Making}
use Rattle.interleaver.proofs.table.make_places.Given as goal

abbrev pub invariant-loop-turn : goal.invariant-loop-turn
invariant-loop-turn l = Making l.t l.n l.s l.q l.initial.out l.out l.x l.y l.z l.w l.end (4 * l._turn)
