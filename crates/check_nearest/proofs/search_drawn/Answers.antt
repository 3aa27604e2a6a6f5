-- `search_drawn` meets its contract. Assumes nothing.
use borrow.Author.Rules.{rules}
use Rattle.check_nearest.proofs.search_drawn.Goals as goal

pub search_by-count-requires : goal.search_by-count-requires
search_by-count-requires c =
    let a = c in (
      record { rate = a.requires.rate; row = a.requires.row; few = search rules; same = search rules },
      c.reduce.ensures.1,
    )
