-- `search_block` meets its contract. Assumes nothing.
use Rattle.nearest.proofs.Blocks.{standard_rate, fac_searches, fac-found}
use Rattle.nearest.proofs.fac.search_block.Goals as goal

pub pattern-p-requires : goal.pattern-p-requires
pattern-p-requires c = standard_rate c.standard_table-table.ensures

pub search_with-requires : goal.search_with-requires
search_with-requires c =
    fac_searches c.flips-flips.ensures c.standard_table-table.ensures c.pattern-p.ensures
    c.requires

pub returns : goal.returns
returns c = fac-found c.flips-flips.ensures c.standard_table-table.ensures c.pattern-p.ensures c.search_with.ensures
