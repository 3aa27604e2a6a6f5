-- `theorems::places_counted` promises its statement. Assumes nothing.
use Rattle.grid.proofs.Inverses.{places-counted}
use Rattle.grid.proofs.Pairings.{right_grid_lem}
use Rattle.grid.proofs.theorems.places_counted.Goals as goal

pub returns : goal.returns
returns c = record { right_grid_value = right_grid_lem; places_counted = places-counted }
