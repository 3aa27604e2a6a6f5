-- `search_once` meets its contract. Assumes nothing.
use Rattle.check_nearest.proofs.Reduced.{room}
use Rattle.check_nearest.proofs.search_once.Goals as goal

pub search_drawn-requires : goal.search_drawn-requires
search_drawn-requires c =
    let a = c in
    room a.args.n a.requires.0 a.requires.1 a.requires.2
