-- `search_with` meets its contract. Assumes nothing.
use Rattle.nearest.proofs.Searching.{searches_with}
use Rattle.nearest.proofs.search.search_with.Goals as goal

pub search-requires : goal.search-requires
search-requires c = rw (c.columns.ensures, c.columns-2.ensures) (searches_with _ _ c.requires)

pub returns : goal.returns
returns c = rw (c.columns.ensures, c.columns-2.ensures) at c.search.ensures
