-- `tables::block_places` meets its contract. Assumes nothing.
use Rattle.blockplaces.proofs.Orders.{first_level, Tabled}
use Rattle.blockplaces.proofs.tables.block_places.Given as goal

abbrev pub invariant-loop-i : goal.invariant-loop-i
invariant-loop-i l = Tabled (first_level l.levels l.step) l.n l.initial.out l.out l.i
